-- A call with a bad path is answered as soon as it is sent.
use Rattle.std.proofs.Common.{◌≡◌, ◌≢◌, inr, ℕ, ◌+◌, ◌<◌, ◌&&◌, Bool, true, false, [], ◌∷◌, ◌++◌, length, Some, refl, sym, ap, ◌∙◌, subst, arith, append_assoc}
use Rattle.std.proofs.lemmas.Option.{same_Some}
use Rattle.fal_base.specs.declared.call.CallRec.{CallRec}
use Rattle.fal_base.specs.declared.call.Config.{Config}
use Rattle.fal_base.specs.declared.call.Cred.{Cred}
use Rattle.fal_base.specs.declared.entry.Entry.TheVariants as entry
use Rattle.fal_base.specs.declared.op.Op.{Op}
use Rattle.fal_base.specs.declared.op.Op.TheVariants as op
use Rattle.fal_base.specs.declared.path.PathArg.TheVariants.{Good as GoodPath, Bad}
use Rattle.fal_base.specs.declared.path.PathFault.{PathFault}
use Rattle.fal_base.specs.declared.reply.Reply.{Reply}
use Rattle.fal_base.specs.declared.reply.Reply.TheVariants.{Fail}
use Rattle.fal_base.specs.Answer.{answer, errno_of}
use Rattle.fal_base.specs.Change.{changes, makes}
use Rattle.fal_base.specs.EachOnce.{NotAnswered}
use Rattle.fal_base.specs.Transcript.{is_place}
use Rattle.fal_base.specs.Tree.{Tree}
use Rattle.fal_base.specs.OpPaths.{bad_path}
use Rattle.fal_story.proofs.Families.Asking.{asking_called, asking_put}
use Rattle.fal_story.proofs.Families.Barring.{bars_put}
use Rattle.fal_story.proofs.Families.Clear.{clear_put}
use Rattle.fal_story.proofs.Families.Knowing.{Untold, knowing_put, knowing_sent}
use Rattle.fal_story.proofs.Families.Lanes.{IsRight, lanes_idle, lanes_sent}
use Rattle.fal_story.proofs.Families.Listings.{listings_noted, listings_put, listings_sent, plain_answer}
use Rattle.fal_story.proofs.Families.OperationCalls.{operation_moved, operation_sent}
use Rattle.fal_story.proofs.Families.Plans.{plans_called, plans_put}
use Rattle.fal_story.proofs.Families.Records.{records_moved, records_sent}
use Rattle.fal_story.proofs.Families.Script.{script_answered, script_sent}
use Rattle.fal_story.proofs.Good.{Good}
use Rattle.fal_story.proofs.Lists.Grown.{put_all, put_back, put_put, put_same}
use Rattle.fal_story.proofs.Phase.{Phase, Idle, Goes, IsSteady, IsUnlisted, Stays, goes_same, steady_same}
use Rattle.fal_story.proofs.Steps.Called.{IsNext}
use Rattle.fal_story.proofs.Trees.Once.{just_sent}
use Rattle.fal_story.proofs.View.{View, now}
use Rattle.fal_story.specs.World.{put}

and_false : (b : Bool) → (b && false) ≡ false
and_false true = refl
and_false false = refl

-- what the plain tree answers to a call with a bad path, which makes no commit
bad_answer : (tree : Tree) (cred : Cred) (call : Op) (fault : PathFault) → bad_path call ≡ Some fault → (Fail (errno_of fault) ≡ answer tree cred call) × (makes tree cred call ≡ false)
unfolding bad_path
bad_answer tree cred (op.Mkdir (GoodPath names) mode) fault bad = absurd (cc)
bad_answer tree cred (op.Mkdir (Bad f raw) mode) fault bad = (ap (λ x. Fail (errno_of x)) (sym (same_Some _ _ bad)), refl)
bad_answer tree cred (op.Create (GoodPath names) mode) fault bad = absurd (cc)
bad_answer tree cred (op.Create (Bad f raw) mode) fault bad = (ap (λ x. Fail (errno_of x)) (sym (same_Some _ _ bad)), refl)
bad_answer tree cred (op.Stat (GoodPath names)) fault bad = absurd (cc)
bad_answer tree cred (op.Stat (Bad f raw)) fault bad = (ap (λ x. Fail (errno_of x)) (sym (same_Some _ _ bad)), refl)
bad_answer tree cred (op.Access (GoodPath names) want) fault bad = absurd (cc)
bad_answer tree cred (op.Access (Bad f raw) want) fault bad = (ap (λ x. Fail (errno_of x)) (sym (same_Some _ _ bad)), refl)
bad_answer tree cred (op.Truncate (GoodPath names) size) fault bad = absurd (cc)
bad_answer tree cred (op.Truncate (Bad f raw) size) fault bad = (ap (λ x. Fail (errno_of x)) (sym (same_Some _ _ bad)), refl)
bad_answer tree cred (op.Unlink (GoodPath names)) fault bad = absurd (cc)
bad_answer tree cred (op.Unlink (Bad f raw)) fault bad = (ap (λ x. Fail (errno_of x)) (sym (same_Some _ _ bad)), refl)
bad_answer tree cred (op.Chmod (GoodPath names) mode) fault bad = absurd (cc)
bad_answer tree cred (op.Chmod (Bad f raw) mode) fault bad = (ap (λ x. Fail (errno_of x)) (sym (same_Some _ _ bad)), refl)
bad_answer tree cred (op.Chown (GoodPath names) uid gid) fault bad = absurd (cc)
bad_answer tree cred (op.Chown (Bad f raw) uid gid) fault bad = (ap (λ x. Fail (errno_of x)) (sym (same_Some _ _ bad)), refl)
bad_answer tree cred (op.Rmdir (GoodPath names)) fault bad = absurd (cc)
bad_answer tree cred (op.Rmdir (Bad f raw)) fault bad = (ap (λ x. Fail (errno_of x)) (sym (same_Some _ _ bad)), refl)
bad_answer tree cred (op.Rename (GoodPath from) (GoodPath to)) fault bad = absurd (cc)
bad_answer tree cred (op.Rename (GoodPath from) (Bad f raw)) fault bad =
    (ap (λ x. Fail (errno_of x)) (sym (same_Some _ _ bad)), and_false (changes tree cred (op.Rename (GoodPath from) (Bad f raw))))
bad_answer tree cred (op.Rename (Bad f raw) to) fault bad =
    (ap (λ x. Fail (errno_of x)) (sym (same_Some _ _ bad)), and_false (changes tree cred (op.Rename (Bad f raw) to)))
bad_answer tree cred (op.List (GoodPath names)) fault bad = absurd (cc)
bad_answer tree cred (op.List (Bad f raw)) fault bad = (ap (λ x. Fail (errno_of x)) (sym (same_Some _ _ bad)), refl)
bad_answer tree cred (op.Place name rule) fault bad = absurd (cc)

bad_tree : (o : Op) (fault : PathFault) → bad_path o ≡ Some fault → is_place o ≡ false
unfolding bad_path
bad_tree (op.Place name rule) fault bad = absurd (cc)
bad_tree other fault bad = refl

bad_right : (config : Config) (v : View) (l : ℕ) (call : CallRec) (fault : PathFault) → bad_path call.op ≡ Some fault → Good config v
    → IsRight v.commits (v.seq l + 1) call (length v.commits) l (length v.commits) (Fail (errno_of fault))
bad_right config v l call fault bad g =
    let x = bad_answer (now v) call.cred call.op fault bad in
    record {
      tree = bad_tree call.op fault bad;
      plain = refl;
      from = omega arith;
      to = omega arith;
      served = x.0;
      made = λ m. let no_commit = x.1 in absurd (cc);
      only = λ i c h by. let y = g.script.commits.older i c h in let z = ap v.seq by.0 in let w = by.1 in absurd (omega arith);
    }

abbrev sent_view : View → ℕ → CallRec → View
sent_view v l call = record v {
  entries = v.entries ++ entry.Sent l (v.seq l + 1) ∷ [];
  seq = put v.seq l (v.seq l + 1);
  call = put v.call l call;
  since = put v.since l (length v.commits);
  phase = put v.phase l Idle;
}

sent_idle : (config : Config) (v : View) (l : ℕ) (call : CallRec) → IsNext config v l call → Good config v → Good config (sent_view v l call)
sent_idle config v l call next g = record {
  ground = g.ground;
  clear = clear_put g.clear l Idle tt;
  asking = asking_called g.asking (put v.since l (length v.commits)) l call Idle (λ a ne. put_elsewhere v.since l (length v.commits) a ne) tt;
  plans = plans_called g.plans l call Idle tt;
  lanes = lanes_sent g.lanes l call Idle (record { no_done = λ k r e. absurd (cc); routed = λ m is. absurd is; fits = λ busy. absurd (busy refl) }) g.script.commits.older;
  script = script_sent g.script l call Idle next.named next.lane next.number (λ k r e. absurd (cc));
  records = records_sent g.records l call Idle next.idle;
  operation = operation_sent g.operation l call Idle (λ e. let idle = next.idle in absurd (cc)) (λ e. absurd (cc));
  bars = bars_put g.bars l Idle tt;
  knowing = knowing_sent g.knowing l call Idle next.idle next.version (λ i j e. absurd (cc));
  listings = listings_noted (listings_sent g.listings l (length v.commits) call Idle tt) (entry.Sent l (v.seq l + 1)) g.script.joined (λ m s k names same. cc);
}
  where
    put_elsewhere : (f : ℕ → ℕ) (l x a : ℕ) → a ≢ l → put f l x a ≡ f a
    put_elsewhere f l x a ne = put_all (λ a z. a ≢ l → z ≡ f a) f l x (λ same. absurd (same refl)) (λ a _ _. refl) a ne

answered_idle : (config : Config) (v : View) (l k : ℕ) (reply : Reply) → v.phase l ≡ Idle → 0 < v.seq l → NotAnswered v.entries (length v.entries) l (v.seq l) → IsRight v.commits (v.seq l) (v.call l) (v.since l) l k reply → Good config v
    → Good config (record v { entries = v.entries ++ entry.Answered l (v.seq l) k reply ∷ []; phase = put v.phase l Idle })
answered_idle config v l k reply idle above none right g = record {
  ground = g.ground;
  clear = clear_put g.clear l Idle tt;
  asking = asking_put g.asking l Idle tt;
  plans = plans_put g.plans l Idle tt;
  lanes = lanes_idle g.lanes l;
  script = script_answered g.script l k reply above none (λ _ _. right) (inr right.tree);
  records = records_moved g.records (put v.phase l Idle)
      (put_all (λ a q. Goes (v.phase a) q) v.phase l Idle (goes_same (v.phase l) Idle (sym idle)) (λ a _. goes_same (v.phase a) (v.phase a) refl))
      (put_all (λ a q. Stays (v.phase a) q) v.phase l Idle (λ n e. sym idle ∙ e) (λ a _ n e. e));
  operation = operation_moved g.operation (put v.phase l Idle) (put_all (λ a q. IsSteady (v.phase a) q) v.phase l Idle (steady_same (v.phase l) Idle (sym idle)) (λ a _. steady_same (v.phase a) (v.phase a) refl));
  bars = bars_put g.bars l Idle tt;
  knowing = knowing_put g.knowing l Idle (λ _. refl) (subst Untold (sym idle) tt) tt;
  listings = listings_noted (listings_put g.listings l Idle (λ _. refl) (subst IsUnlisted (sym idle) tt) tt) (entry.Answered l (v.seq l) k reply) g.script.joined (plain_answer l (v.seq l) k reply right.plain);
}

-- a call with a bad path is answered at once
pub skipped_good : (config : Config) (v : View) (l : ℕ) (call : CallRec) (fault : PathFault) → IsNext config v l call → bad_path call.op ≡ Some fault → Good config v
    → Good config (record v {
      entries = v.entries ++ entry.Sent l (v.seq l + 1) ∷ entry.Answered l (v.seq l + 1) (length v.commits) (Fail (errno_of fault)) ∷ [];
      seq = put v.seq l (v.seq l + 1);
      call = put v.call l call;
      since = put v.since l (length v.commits);
    })
skipped_good config v l call fault next bad g =
    let e = entry.Sent l (v.seq l + 1) in
    let reply = Fail (errno_of fault) in
    let count = length v.commits in
    let v1 = sent_view v l call in
    let first = sent_idle config v l call next g in
    let at_seq = put_same v.seq l (v.seq l + 1) in
    let at_call = put_same v.call l call in
    let at_since = put_same v.since l count in
    let right : IsRight v.commits (v1.seq l) (v1.call l) (v1.since l) l count reply =
    subst (λ s. IsRight v.commits s (v1.call l) (v1.since l) l count reply) (sym at_seq)
    (subst (λ c. IsRight v.commits (v.seq l + 1) c (v1.since l) l count reply) (sym at_call)
    (subst (λ n. IsRight v.commits (v.seq l + 1) call n l count reply) (sym at_since) (bad_right config v l call fault bad g))) in
    let second = answered_idle config v1 l count reply (put_same v.phase l Idle) (omega arith)
    (subst (λ s. NotAnswered v1.entries (length v1.entries) l s) (sym at_seq) (just_sent config v.entries v.seq v.phase l g.script.once))
    right first in
    let entries : v1.entries ++ entry.Answered l (v1.seq l) count reply ∷ [] ≡ v.entries ++ e ∷ entry.Answered l (v.seq l + 1) count reply ∷ [] =
    ap (λ s. v1.entries ++ entry.Answered l s count reply ∷ []) at_seq ∙ append_assoc v.entries (e ∷ []) (entry.Answered l (v.seq l + 1) count reply ∷ []) in
    let phase : ◌≡◌ {A = ℕ → Phase} (put v1.phase l Idle) v.phase = put_put v.phase l Idle Idle ∙ ap (put v.phase l) (sym next.idle) ∙ put_back v.phase l in
    let same : record v1 { entries = v1.entries ++ entry.Answered l (v1.seq l) count reply ∷ []; phase = put v1.phase l Idle } ≡ record v { entries = v.entries ++ e ∷ entry.Answered l (v.seq l + 1) count reply ∷ []; seq = v1.seq; call = v1.call; since = v1.since } =
    λ i. record v { entries = entries i; seq = v1.seq; call = v1.call; since = v1.since; phase = phase i } in
    subst (Good config) same second
