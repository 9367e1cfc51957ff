-- A listing holds what stood throughout, and nothing that never stood. POSIX.1-2017, XSH readdir, leaves open whether entries that
-- come or go meanwhile are returned.
use Rattle.std.specs.Prelude.{◌≡◌, ℕ, ◌≤◌, true, List, [], ◌∷◌, Some, IsSome, IsSomeAnd, Contains, slice_get}
use Rattle.std.specs.declared.cmp.Ordering.TheVariants.{Less}
use Rattle.std.specs.Ordering.{nat_cmp}
use Rattle.std.specs.Cmp.Lexicographic.{slice_cmp}
use Rattle.fal_base.specs.declared.call.Call.{Call}
use Rattle.fal_base.specs.declared.call.Config.{Config}
use Rattle.fal_base.specs.declared.call.Cred.{Cred}
use Rattle.fal_base.specs.declared.entry.Entry.{Entry}
use Rattle.fal_base.specs.declared.entry.Entry.TheVariants.{Sent, Opened, Answered}
use Rattle.fal_base.specs.declared.op.Op.TheVariants as op
use Rattle.fal_base.specs.declared.path.PathArg.TheVariants.{Good}
use Rattle.fal_base.specs.declared.reply.Reply.TheVariants.{Names}
use Rattle.fal_base.specs.Commits.{Commit, tree_at}
use Rattle.fal_base.specs.Transcript.{call_of, commits_of, at}
use Rattle.fal_base.specs.Tree.{Tree, row_at, key_of}
use Rattle.fal_base.specs.Walk.{Walked, Stop, Ready, walk, is_dir, grants}

-- the names rise by their bytes, so that none stands twice
abbrev pub AreRising : List (List ℕ) → Type 0
AreRising [] = Unit {0}
AreRising (name ∷ []) = Unit {0}
AreRising (name ∷ next ∷ names) = (slice_cmp nat_cmp name next ≡ Less) × AreRising (next ∷ names)

abbrev pub StandsUnder : Tree → ℕ → List ℕ → Type 0
StandsUnder tree dir name = IsSome (row_at tree (key_of dir name))

-- the walk's last key holds the directory with this number, which grants reading
abbrev pub OpensAt : Tree → Cred → ℕ → Walked → Type 0
OpensAt tree cred dir (Stop errno) = ⊥
OpensAt tree cred dir (Ready parent passed last) =
    IsSomeAnd (row_at tree last) (λ inode. (inode.ino ≡ dir) × (is_dir inode ≡ true) × (grants cred 4 inode ≡ true))

-- what is listed of a directory, from point b to point e
pub record HoldsBetween (commits : List Commit) (dir b e : ℕ) (names : List (List ℕ)) : Type 0 where
  pub rising : AreRising names
  pub throughout : (name : List ℕ) → ((k : ℕ) → b ≤ k → k ≤ e → StandsUnder (tree_at commits k) dir name) → Contains names name
  pub sometime : (name : List ℕ) → Contains names name → (k : ℕ) × (b ≤ k) × (k ≤ e) × StandsUnder (tree_at commits k) dir name

-- what the listing with point e says that stands at entry j
pub record IsListing (config : Config) (entries : List Entry) (j lane seq e : ℕ) (names : List (List ℕ)) (call : Call) : Type 0 where
  -- the call lists a good path
  pub path : List (List ℕ)
  pub lists : call.op ≡ op.List (Good path)
  -- where it was sent, and where its directory was opened
  pub sent : ℕ
  pub is_sent : slice_get entries sent ≡ Some (Sent lane seq)
  pub opened : ℕ
  pub dir : ℕ
  pub b : ℕ
  pub is_opened : slice_get entries opened ≡ Some (Opened lane seq dir b)
  pub from : at entries sent ≤ b
  pub onward : b ≤ e
  pub to : e ≤ at entries j
  pub opens : OpensAt (tree_at (commits_of config entries) b) call.cred dir (walk (tree_at (commits_of config entries) b) call.cred path)
  pub holds : HoldsBetween (commits_of config entries) dir b e names

abbrev pub AreListings : Config → List Entry → Type 0
AreListings config entries =
    (j lane seq e : ℕ) (names : List (List ℕ)) (call : Call) → slice_get entries j ≡ Some (Answered lane seq e (Names names))
    → call_of config lane seq ≡ Some call → IsListing config entries j lane seq e names call
