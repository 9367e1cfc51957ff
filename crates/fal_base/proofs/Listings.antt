-- A worked listing, and two that are wrong: one lacks a name, and one has a name that never stood.
use Rattle.std.proofs.Common.{◌≡◌, ℕ, zero, suc, ◌<◌, ◌≤◌, Bool, true, false, List, [], ◌∷◌, Some, None, cond, refl, sym, ap, subst, arith}
use Rattle.std.specs.Prelude.{codes, slice_get, IsSome, Contains, slice_index_or}
use Rattle.std.proofs.lemmas.Option.{same_Some}
use Rattle.fal_base.specs.declared.call.Call.{Call}
use Rattle.fal_base.specs.declared.call.Config.{Config}
use Rattle.fal_base.specs.declared.call.Cred.{Cred}
use Rattle.fal_base.specs.declared.entry.Entry.{Entry}
use Rattle.fal_base.specs.declared.entry.Entry.TheVariants.{Sent, Commit, Opened, Answered}
use Rattle.fal_base.specs.declared.inode.Inode.{Inode}
use Rattle.fal_base.specs.declared.inode.Kind.TheVariants.{Dir}
use Rattle.fal_base.specs.declared.key.Key.{Key}
use Rattle.fal_base.specs.declared.op.Op.TheVariants.{Mkdir, List as Lists}
use Rattle.fal_base.specs.declared.path.PathArg.TheVariants.{Good}
use Rattle.fal_base.specs.declared.reply.Reply.TheVariants.{Fine, Names}
use Rattle.fal_base.specs.Commits.{tree_at}
use Rattle.fal_base.specs.Listing.{HoldsBetween, IsListing, AreListings, StandsUnder}
use Rattle.fal_base.specs.Transcript.{call_of, commits_of}
use Rattle.fal_base.specs.Tree.{Tree, key_cmp, key_of, same_key}
use Rattle.fal_base.proofs.Maps.{same_key_is}

abbrev root : Cred
root = record { uid = 0; gid = 0 }

abbrev make : Call
make = record { cred = root; op = Mkdir (Good (codes "a" ∷ [])) 493 }

abbrev look : Call
look = record { cred = root; op = Lists (Good []) }

-- lane 1 makes /a and then lists the root
abbrev config : Config
config = record { nodes = 1; batch = 1; lanes = (make ∷ look ∷ []) ∷ [] }

abbrev told : List (List ℕ) → List Entry
told names = Sent 1 1 ∷ Commit 1 1 256 ∷ Answered 1 1 0 Fine ∷ Sent 1 2 ∷ Opened 1 2 1 1 ∷ Answered 1 2 1 (Names names) ∷ []

-- the tree that is listed
abbrev tree : Tree
tree = tree_at (commits_of config (told [])) 1

-- ---- what stands under the root

stands : StandsUnder tree 1 (codes "a")
unfolding key_cmp
stands = refl

apart_from : (b : Bool) (row : Inode) → b ≡ false → IsSome (cond b (Some row) None) → ⊥
apart_from true row is some = absurd (cc)
apart_from false row is some = absurd (cc)

-- what is looked up under another name is not there
other_name : (name : List ℕ) → same_key (key_of 1 name) (key_of 1 (codes "a")) ≡ false → StandsUnder tree 1 name → ⊥
unfolding key_cmp
other_name name apart some = apart_from (same_key (key_of 1 name) (key_of 1 (codes "a"))) (record { ino = 256; kind = Dir; mode = 493; uid = 0; gid = 0; size = 0 }) apart some

only : (name : List ℕ) → StandsUnder tree 1 name → codes "a" ≡ name
only name some =
    elim (same_key (key_of 1 name) (key_of 1 (codes "a"))) as (λ b. same_key (key_of 1 name) (key_of 1 (codes "a")) ≡ b → codes "a" ≡ name) [
      | true ↦ λ same. ap (λ (k : Key). k.name) (sym ((same_key_is (key_of 1 name) (key_of 1 (codes "a"))).0 same))
      | false ↦ λ apart. absurd (other_name name apart some)
    ] refl

-- ---- the listing of what stands there

has_a : Contains (codes "a" ∷ []) (codes "a")
has_a = (0, omega arith, refl)

the_one : (name : List ℕ) → Contains (codes "a" ∷ []) name → name ≡ codes "a"
the_one name x = at x.0 x.1 x.2
  where
    at : (k : ℕ) → k < 1 → slice_index_or (codes "a" ∷ []) k name ≡ name → name ≡ codes "a"
    at zero within is = sym is
    at (suc k) within is = absurd (omega arith)

-- at points from 1 to 1 the tree is this one
at_one : (k : ℕ) (name : List ℕ) → 1 ≤ k → k ≤ 1 → StandsUnder (tree_at (commits_of config (told [])) k) 1 name → StandsUnder tree 1 name
at_one k name from to some = let one : k ≡ 1 = omega arith in subst (λ j. StandsUnder (tree_at (commits_of config (told [])) j) 1 name) one some

right : HoldsBetween (commits_of config (told [])) 1 1 1 (codes "a" ∷ [])
right = record {
  rising = tt;
  throughout = λ name stays. subst (Contains (codes "a" ∷ [])) (only name (stays 1 (omega arith) (omega arith))) has_a;
  sometime = λ name listed. (1, omega arith, omega arith, subst (StandsUnder tree 1) (sym (the_one name listed)) stands);
}

-- what the answer says at place j, where it is one with names
abbrev Tells : ℕ → Entry → Type 0
Tells j (Answered lane seq point (Names names)) = (call : Call) → call_of config lane seq ≡ Some call → IsListing config (told (codes "a" ∷ [])) j lane seq point names call
Tells j other = Unit {0}

answered : Tells 5 (Answered 1 2 1 (Names (codes "a" ∷ [])))
unfolding key_cmp
answered call is =
    let same : look ≡ call = same_Some look call is in
    subst (λ (c : Call). IsListing config (told (codes "a" ∷ [])) 5 1 2 1 (codes "a" ∷ []) c) same
    (record {
      path = [];
      lists = refl;
      sent = 3;
      is_sent = refl;
      opened = 4;
      dir = 1;
      b = 1;
      is_opened = refl;
      from = omega arith;
      onward = omega arith;
      to = omega arith;
      opens = (refl, refl, refl);
      holds = right;
    })

the_listing : AreListings config (told (codes "a" ∷ []))
the_listing zero lane seq e names call is = absurd (cc)
the_listing (suc zero) lane seq e names call is = absurd (cc)
the_listing (suc (suc zero)) lane seq e names call is = absurd (cc)
the_listing (suc (suc (suc zero))) lane seq e names call is = absurd (cc)
the_listing (suc (suc (suc (suc zero)))) lane seq e names call is = absurd (cc)
the_listing (suc (suc (suc (suc (suc zero))))) lane seq e names call is =
    subst (Tells 5) (same_Some (Answered 1 2 1 (Names (codes "a" ∷ []))) (Answered lane seq e (Names names)) is) answered call
the_listing (suc (suc (suc (suc (suc (suc j)))))) lane seq e names call is = absurd (cc)

-- ---- wrong ones

-- where the directory was opened, and when
opened_at : (names : List (List ℕ)) (j dir b : ℕ) → slice_get (told names) j ≡ Some (Opened 1 2 dir b) → (1 ≡ dir) × (1 ≡ b)
opened_at names zero dir b is = absurd (cc)
opened_at names (suc zero) dir b is = absurd (cc)
opened_at names (suc (suc zero)) dir b is = absurd (cc)
opened_at names (suc (suc (suc zero))) dir b is = absurd (cc)
opened_at names (suc (suc (suc (suc zero)))) dir b is = (cc, cc)
opened_at names (suc (suc (suc (suc (suc zero))))) dir b is = absurd (cc)
opened_at names (suc (suc (suc (suc (suc (suc j)))))) dir b is = absurd (cc)

-- what any listing of these names says of the root
held : (names : List (List ℕ)) → AreListings config (told names) → HoldsBetween (commits_of config (told [])) 1 1 1 names
held names listings =
    let x = listings 5 1 2 1 names look refl refl in
    let o = opened_at names x.opened x.dir x.b x.is_opened in
    subst (λ dir. HoldsBetween (commits_of config (told [])) dir 1 1 names) (sym o.0) (subst (λ b. HoldsBetween (commits_of config (told [])) x.dir b 1 names) (sym o.1) x.holds)

a_name_dropped : AreListings config (told []) → ⊥
a_name_dropped listings =
    let has = (held [] listings).throughout (codes "a") (λ k from to. stays k from to) in
    let within : has.0 < 0 = has.1 in
    absurd (omega arith)
  where
    stays : (k : ℕ) → 1 ≤ k → k ≤ 1 → StandsUnder (tree_at (commits_of config (told [])) k) 1 (codes "a")
    stays k from to = let one : k ≡ 1 = omega arith in subst (λ j. StandsUnder (tree_at (commits_of config (told [])) j) 1 (codes "a")) (sym one) stands

a_name_invented : AreListings config (told (codes "a" ∷ codes "ab" ∷ [])) → ⊥
a_name_invented listings =
    let some = (held (codes "a" ∷ codes "ab" ∷ []) listings).sometime (codes "ab") (1, omega arith, refl) in
    let wrong : codes "a" ≡ codes "ab" = only (codes "ab") (at_one some.0 (codes "ab") some.1 some.2 some.3) in
    absurd (cc)
