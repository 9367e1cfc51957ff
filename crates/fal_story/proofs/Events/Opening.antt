-- What a cluster shows before its first event.
use Rattle.std.proofs.Common.{◌≡◌, ◌≢◌, ◌⊎◌, ⊎_elim, inl, inr, ℕ, suc, ◌+◌, Bool, true, false, List, [], Some, None, Option, refl, sym, ap, ◌∙◌, subst, arith}
use Rattle.std.specs.Prelude.{slice_get, unwrap_or, ◌==◌, if◌then◌else◌}
use Rattle.std.proofs.lemmas.Option.{same_Some}
use Rattle.fal_base.specs.declared.call.Call.{Call}
use Rattle.fal_base.specs.declared.call.CallRec.{CallRec}
use Rattle.fal_base.specs.declared.call.Config.{Config}
use Rattle.fal_base.specs.declared.inode.Inode.{Inode}
use Rattle.fal_base.specs.declared.inode.Kind.TheVariants.{Dir}
use Rattle.fal_base.specs.declared.key.Key.{Key}
use Rattle.fal_base.specs.declared.op.Op.TheVariants as op
use Rattle.fal_base.specs.declared.path.PathArg.TheVariants.{Good as GoodPath}
use Rattle.fal_base.specs.Transcript.{call_of, lane_call, numbered}
use Rattle.fal_base.specs.Tree.{tree0, root_key, row_at, IsInOrder}
use Rattle.fal_base.proofs.Maps.{put_cases}
use Rattle.fal_base.proofs.Order.{in_order_with}
use Rattle.fal_coord.specs.State.{opening_coord}
use Rattle.fal_node.specs.State.{opening_node, opening_rows}
use Rattle.fal_place.specs.Placement.{Placement, owner}
use Rattle.fal_wire.specs.Numbers.{ino_field, mode_field, size_field}
use Rattle.fal_wire.specs.Rows.{kind_field, inode_field}
use Rattle.fal_story.proofs.Events.Shows.{Ghost, Shows, IsPlaced, view_of}
use Rattle.fal_story.proofs.Drain.Actors.{owner_there}
use Rattle.fal_story.proofs.Good.{Good}
use Rattle.fal_story.proofs.Lists.Grown.{tells, unequal, put_back}
use Rattle.fal_story.proofs.View.{View}
use Rattle.fal_story.proofs.Phase.{Idle, Tells, Opens, Lists}
use Rattle.fal_story.proofs.Ranges.Bounds.{IsRanged, IsNodeRanged, IsNodeCounted}
use Rattle.fal_story.proofs.Ranges.CoordBounds.{IsCoordRanged}
use Rattle.fal_story.proofs.Ranges.RowRanges.{AreRowsRanged}
use Rattle.fal_story.proofs.Trees.Standing.{row_of, table_of}
use Rattle.fal_story.specs.Clusters.{IsCluster, calls_of_lane}
use Rattle.fal_story.specs.World.{opening_world}

abbrev root : Inode
root = record { ino = 1; kind = Dir; mode = 493; uid = 0; gid = 0; size = 0 }

-- of the tree at the start there is the root alone
only_root : (key : Key) → (key ≡ root_key) ⊎ (row_at tree0 key ≡ None)
only_root key = ⊎_elim (λ is. inl is.0) (λ is. inr is.1) (put_cases key root_key root [])

owner_of_root : (table : Placement) → owner table root_key ≡ 0
owner_of_root table = refl

-- nothing stands there, whoever owns the key
nothing_there : (b : Bool) (row : Option Inode) → row ≡ None → (if b then row else None) ≡ None
nothing_there true row is = is
nothing_there false row is = refl

rows_of_zero : (table : Placement) (key : Key) → row_at tree0 key ≡ row_of table tree0 0 key
rows_of_zero table key =
    ⊎_elim
    (λ is. subst (λ k. row_at tree0 k ≡ row_of table tree0 0 k) (sym is) refl)
    (λ none. none ∙ sym (nothing_there (owner table key == 0) (row_at tree0 key) none))
    (only_root key)

rows_of_other : (table : Placement) (n : ℕ) (key : Key) → n ≢ 0 → None ≡ row_of table tree0 n key
rows_of_other table n key other =
    ⊎_elim
    (λ is. subst (λ k. None ≡ row_of table tree0 n k) (sym is) (sym (ap (λ b. if b then row_at tree0 root_key else None) (unequal 0 n (λ e. other (sym e))))))
    (λ none. sym (nothing_there (owner table key == n) (row_at tree0 key) none))
    (only_root key)

rows_at_start : (table : Placement) (n : ℕ) (key : Key) → row_at (opening_rows n) key ≡ row_of table tree0 n key
rows_at_start table n key =
    ⊎_elim
    (λ y. ap (λ b. row_at (if b then tree0 else []) key) y.0 ∙ subst (λ m. row_at tree0 key ≡ row_of table tree0 m key) (sym y.1) (rows_of_zero table key))
    (λ y. ap (λ b. row_at (if b then tree0 else []) key) y.0 ∙ rows_of_other table n key y.1)
    (tells n 0)

-- no call was sent yet
abbrev no_call : CallRec
no_call = record { id = record { client = 0; seq = 0; attempt = 0; hop = 0 }; cred = record { uid = 0; gid = 0 }; version = 0; op = op.Stat (GoodPath []) }

abbrev pub opening_ghost : Ghost
opening_ghost = record { call = λ _. no_call; since = λ _. 0; phase = λ _. Idle; crossed = λ _. []; queued = λ _. None; due = λ _. []; starts = []; placings = [] }

lane_at_start : (lane : Option (List Call)) (k : ℕ) → slice_get (unwrap_or lane []) k ≡ lane_call lane (suc k)
lane_at_start None k = refl
lane_at_start (Some calls) k = refl

left_at_start : (config : Config) (l k : ℕ) → slice_get (calls_of_lane config l) k ≡ call_of config l (0 + 1 + k)
left_at_start config l k = let next : suc k ≡ 0 + 1 + k = omega arith in lane_at_start (numbered config.lanes l) k ∙ ap (lane_call (numbered config.lanes l)) next

-- the first view, with the coordinator like any other
abbrev first_view : Config → View
first_view config = record (view_of config (opening_world config) opening_ghost) { replica = λ _. []; fetches = λ _. []; opened = λ _. 0; taken = λ _. [] }

-- the coordinator's seat has what all have
view_at_start : (config : Config) → first_view config ≡ view_of config (opening_world config) opening_ghost
unfolding opening_node opening_coord
view_at_start config = λ i. record (first_view config) {
  replica = sym (put_back (λ _. []) 255) i;
  fetches = sym (put_back (λ _. []) 255) i;
  opened = sym (put_back (λ _. 0) 255) i;
  taken = sym (put_back (λ _. []) 255) i;
}

good_at_first : (config : Config) → IsCluster config → Good config (first_view config)
unfolding opening_node opening_coord
good_at_first config cluster = record {
  ground = record {
    lives = λ key. owner_there config key cluster;
    rows = λ n key. rows_at_start (table_of config) n key;
    absent = λ n past. (refl, λ other. (refl, refl));
    replicas = λ n key dentry is. absurd (cc);
  };
  clear = record { replica = λ n key is. absurd is; fetch = λ n j f at. absurd (cc); ways = λ l n key at. absurd at };
  asking = record {
    found_dirs = λ e n p j f dentry is posted. absurd (cc);
    founds = λ e n p number key what posted. absurd (cc);
    fetches = λ n j f is. absurd (cc);
    numbers = record { got = λ e n p number key what posted. absurd (cc); ask = λ e p to n number key posted. absurd (cc) };
    waits_drawn = λ l n number is. absurd (cc);
    owners = λ e p n number to key posted. absurd (cc);
  };
  plans = record { planned = λ l n x is. absurd (cc) };
  lanes = record {
    right = λ l k reply is. absurd (cc);
    uncommitted = λ l i c is there by. absurd (is);
    under_way = record { started = λ l is. refl; fits = λ l is. absurd (is refl) };
    routed = λ l n is. absurd is;
  };
  script = record {
    commits = record { older = λ i c is. absurd (cc); legal = tt; numbers = λ i c is. absurd (cc); few = λ n. omega arith };
    joined = record { same = refl; count = refl };
    calls = record { named = λ l is. absurd (omega arith); lane = λ l is. absurd (omega arith); number = λ l is. absurd (omega arith); past = λ l. omega arith; entry = λ l is. absurd (omega arith) };
    answers = λ j l s k reply is. absurd (cc);
    once = record {
      each = record {
        sent = λ j l s is. absurd (cc);
        answered = λ j l s k reply is. absurd (cc);
        committed = λ j l s ino is. absurd (cc);
        opened = λ j l s ino point is. absurd (cc);
        placed = λ j l s version is. absurd (cc);
        stale = λ j l s old new is. absurd (cc);
      };
      sent = λ l. refl;
      unanswered = λ l i k reply is there. absurd (cc);
      uncommitted = λ l i ino is there. absurd (cc);
      unplaced = λ l i version is there. absurd (cc);
      unopened = λ l i ino point is there. absurd (cc);
    };
    placements = record {
      same = refl;
      count = refl;
      few = omega arith;
      placed = record {
        versions = λ j l s version is. absurd (cc);
        room = λ j l s version call name rule is named places. absurd (cc);
        answers = λ j l s k reply call name rule is named places. absurd (cc);
      };
      knows = λ l. refl;
      older = λ j l s old new is. absurd (cc);
      right = λ l k reply call name rule is named places. absurd (cc);
    };
  };
  records = record { requests = λ e n p c posted. absurd (cc); responses = λ e l p m posted. absurd (cc) };
  operation = record {
    stands = λ n below. (refl, refl, refl, omega arith);
    beyond = λ n past. refl;
    told = λ e p to m posted. absurd (cc);
    walks = tt;
    heard = tt;
    within = tt;
    dirs = tt;
    counts = tt;
    runs = λ l is. absurd (cc);
    running = λ l is. absurd is;
    unmaking = λ l is. absurd (cc);
    quiet = refl;
    starts = record { count = refl; apart = λ i j x a b. absurd (cc); sent = λ i l s at. absurd (cc); last = λ i l at. absurd (cc) };
  };
  bars = record {
    stands = λ n below. (refl, refl);
    beyond = λ n past. refl;
    grown = tt;
    gone = λ n key is. absurd is;
    named = tt;
    came = tt;
    told = λ e p to m posted. absurd (cc);
    clear = λ l n x e ready is. is;
  };
  knowing = record {
    recorded = refl;
    within = refl;
    knows = λ l. (0, omega arith, refl);
    version = λ l busy. absurd (busy refl);
    told = λ l old new e. absurd (cc);
    stale = λ e p l id old new changes posted. absurd (cc);
    asks = λ e p n id version dir posted. absurd (cc);
  };
  listings = record {
    opened = λ l k dir is. absurd (⊎_elim (λ e. let no : Idle ≡ Tells (Opens k dir) = e in cc) (λ e. let no : Idle ≡ Tells (Lists k dir) = e in cc) is);
    noted = λ l k dir e. absurd (cc);
    parts = λ e l p n id names posted. absurd (cc);
    listed = λ j lane seq e names call is named. absurd (cc);
  };
}

good_at_start : (config : Config) → IsCluster config → Good config (view_of config (opening_world config) opening_ghost)
good_at_start config cluster = subst (Good config) (view_at_start config) (good_at_first config cluster)

placed_at_start : (config : Config) (n : ℕ) → IsPlaced config n (opening_node n config.nodes config.batch)
unfolding opening_node
placed_at_start config n = record {
  number = refl;
  limit = refl;
  blocked = tt;
  tidy = record { tickets = refl; apart = tt; below = tt; pending = tt; tied = tt };
}

pub opening_shows : (config : Config) → IsCluster config → Shows config (opening_world config) opening_ghost
unfolding opening_node opening_coord
opening_shows config cluster = record {
  good = good_at_start config cluster;
  held = λ n. record { waiters = tt; planned = tt; waiters_apart = tt; planned_apart = tt };
  items = λ n. tt;
  heard = λ l. record { lane = refl; nodes = refl; left = λ k. left_at_start config l k; none = λ is. refl; some = λ current is. absurd (cc) };
  kept = λ l current is. absurd (cc);
  placed = λ n. placed_at_start config n;
  beside = record {
    queues = λ n. refl;
    holding = λ n. record { below = tt; planned = λ l p plans. absurd (cc) };
    hosts = record { waiters = tt; apart = tt; current = tt; numbered = omega arith };
  };
}

root_fits : inode_field.Fits root
unfolding inode_field ino_field kind_field mode_field size_field
root_fits = ((omega arith, refl), (tt, ((omega arith, refl), (omega arith, (omega arith, (omega arith, refl))))))

tree0_ranged : AreRowsRanged tree0
tree0_ranged key inode is =
    ⊎_elim
    (λ at. subst inode_field.Fits (same_Some root inode (sym at.1 ∙ is)) root_fits)
    (λ other. let wrong : ◌≡◌ {A = Option Inode} None (Some inode) = sym other.1 ∙ is in absurd (cc))
    (put_cases key root_key root [])

node_ranged_at_start : (n nodes limit : ℕ) → IsNodeRanged (opening_node n nodes limit)
unfolding opening_node
node_ranged_at_start n nodes limit = record {
  rows = elim (n == 0) as (λ b. AreRowsRanged (if b then tree0 else [])) [ true ↦ tree0_ranged | false ↦ λ key inode is. absurd (cc) ];
  sorted = elim (n == 0) as (λ b. IsInOrder (if b then tree0 else [])) [ true ↦ in_order_with [] root_key root refl | false ↦ refl ];
  replica = λ key dentry is. absurd (cc);
  waiting = tt;
  items = tt;
  batches = tt;
}

node_counted_at_start : (n nodes limit : ℕ) → IsNodeCounted 0 (opening_node n nodes limit)
unfolding opening_node
node_counted_at_start n nodes limit = record { tickets = omega arith; items = omega arith; batches = omega arith; fetches = omega arith }

coord_ranged_at_start : (nodes : ℕ) → IsCoordRanged 0 (opening_coord nodes)
unfolding opening_coord
coord_ranged_at_start nodes = record { waiting = tt; replica = λ key dentry is. absurd (cc); stage = tt; asked = omega arith }

pub opening_ranged : (config : Config) → IsRanged (opening_world config)
opening_ranged config = record {
  clients = λ l. record { tried = omega arith; dir = λ current dir busy at. absurd (cc) };
  nodes = λ n. node_ranged_at_start n config.nodes config.batch;
  counted = λ n. node_counted_at_start n config.nodes config.batch;
  coord = coord_ranged_at_start config.nodes;
  envelopes = tt;
}
