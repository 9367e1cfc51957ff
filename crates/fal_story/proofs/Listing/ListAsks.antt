-- A client asks each node for its part of a listing.
use Rattle.std.proofs.Common.{◌≡◌, ◌⊎◌, inr, ℕ, ◌<◌, ◌≤◌, List, [], ◌∷◌, ◌++◌, length, map, refl, sym, subst, append-nil, append_assoc}
use Rattle.std.specs.List.{range_with_len}
use Rattle.fal_base.specs.declared.call.CallId.{CallId}
use Rattle.fal_base.specs.declared.call.Config.{Config}
use Rattle.fal_client.specs.Step.{part_letter}
use Rattle.fal_wire.specs.declared.letter.Letter.{Letter}
use Rattle.fal_story.proofs.Events.InStep.{letter_post, letter_posts}
use Rattle.fal_story.proofs.Families.Knowing.{IsListed, IsOlder}
use Rattle.fal_story.proofs.Good.{Good}
use Rattle.fal_story.proofs.Lists.Each.{Each, each_always, each_weaker}
use Rattle.fal_story.proofs.Lists.Members.{each_map}
use Rattle.fal_story.proofs.Phase.{Tells, Lists}
use Rattle.fal_story.proofs.Steps.Posted.{IsFine, posted_good}
use Rattle.fal_story.proofs.View.{View, seat}
use Rattle.fal_story.specs.World.{point_of}

-- what has to hold of a letter of an event that begins after so many commits
abbrev IsFineLetter : Config → View → ℕ → Letter → Type 0
IsFineLetter config v count letter = IsFine config v (seat letter.to) (point_of count letter.point) letter.message

-- letters are sent, each of which is fine
letters_good : (config : Config) (v : View) (count : ℕ) (letters : List Letter) → Each (IsFineLetter config v count) letters → Good config v → Good config (record v { posts = v.posts ++ letter_posts count letters })
letters_good config v count [] fine g = subst (λ ps. Good config (record v { posts = ps })) (sym (append-nil v.posts)) g
letters_good config v count (letter ∷ letters) fine g =
    let first = posted_good config v (seat letter.to) (point_of count letter.point) letter.message fine.0 g in
    let v1 : View = record v { posts = v.posts ++ letter_post count letter ∷ [] } in
    let rest = each_weaker (IsFineLetter config v count) (IsFineLetter config v1 count) letters
    (λ y x. record { asking = x.asking; records = x.records; operation = x.operation; bars = x.bars; knowing = x.knowing; listings = x.listings }) fine.1 in
    subst (λ ps. Good config (record v { posts = ps })) (append_assoc v.posts (letter_post count letter ∷ []) (letter_posts count letters)) (letters_good config v1 count letters rest first)

-- the lane lists the directory, and asks with this number of its call by the table of this version
pub record IsAsker (config : Config) (v : View) (l k dir : ℕ) (id : CallId) (version : ℕ) : Type 0 where
  pub lists : v.phase l ≡ Tells (Lists k dir)
  pub client : id.client ≡ l
  pub seq : id.seq ≡ v.seq l
  pub attempt : id.attempt ≡ (v.call l).id.attempt
  pub same : version ≡ (v.map.known l).version
  pub reached : version ≤ length v.map.placings
  pub some : 0 < id.seq

ask_fine : (config : Config) (v : View) (l k dir : ℕ) (id : CallId) (version : ℕ) → IsAsker config v l k dir id version → (count n : ℕ) → IsFineLetter config v count (part_letter id version dir n)
ask_fine config v l k dir id version x count n = record {
  asking = tt;
  records = (n, refl);
  operation = tt;
  bars = tt;
  knowing = (
    x.reached,
    subst (λ a. IsOlder id (v.seq a) (v.call a) ⊎ IsListed id (v.seq a) (v.call a) (v.phase a) (v.map.known a) version dir) (sym x.client) (inr ((x.seq, x.attempt), inr (k, x.lists, x.same))),
    x.some,
  );
  listings = tt;
}

-- each of so many nodes is asked
pub asks_good : (config : Config) (v : View) (l k dir : ℕ) (id : CallId) (version count nodes : ℕ) → IsAsker config v l k dir id version → Good config v
    → Good config (record v { posts = v.posts ++ letter_posts count (map (part_letter id version dir) (range_with_len 0 nodes)) })
asks_good config v l k dir id version count nodes x g =
    let letters = map (part_letter id version dir) (range_with_len 0 nodes) in
    letters_good config v count letters
    (each_map (IsFineLetter config v count) (part_letter id version dir) (range_with_len 0 nodes)
    (each_always (λ n. IsFineLetter config v count (part_letter id version dir n)) (λ n. ask_fine config v l k dir id version x count n) (range_with_len 0 nodes)))
    g
