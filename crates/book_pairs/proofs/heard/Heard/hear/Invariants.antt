use Rattle.std.proofs.Common.{◌≡◌, ◌++◌, ◌+◌, ◌≤◌, length, take}
use Rattle.std.specs.Prelude.{vec_len, vec_capacity}
use Rattle.book_pairs.specs.Pairs.{others_of}
use Rattle.book_pairs.proofs.heard.Heard.hear.Given as goal

abbrev pub invariant-loop-pair : goal.invariant-loop-pair
invariant-loop-pair l = record {
  items : l.self-inside.pairs.items ≡ l.fn.self ++ others_of l.actor (take l.pair-index l.news);
  room : vec_len l.self-inside.pairs + length l.news ≤ vec_capacity l.self-inside.pairs + l.pair-index;
}
