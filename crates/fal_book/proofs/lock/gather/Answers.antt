use Rattle.std.proofs.Common.{rules, ◌≡◌, ◌∙◌, ap, subst, [], ◌∷◌, ◌++◌, append_assoc}
use Rattle.std.specs.Prelude.{IfSome}
use Rattle.fal_book.specs.Sitting.{Sitting}
use Rattle.std.specs.Option.{option_to_list}
use Rattle.std.proofs.lemmas.List.Elements.{All-pop}
use Rattle.fal_book.specs.Entries.{IsSound}
use Rattle.fal_book.proofs.Gathers.{gathers_one, idle_one, gathers_more}
use Rattle.fal_book.proofs.lock.gather.Goals as goal

pub loop-other-init : goal.loop-other-init
loop-other-init g c = let b = g.B.Chronicle in record {
  same = search rules;
  own = (All-pop (λ s. s.lock ≡ c.args.board.now.table_id) _ _ _ c.pop.ensures.items c.requires.own).0;
  done = (c.in-Some.kept ∷ [], c.pop.ensures.items ∙ ap (λ z. c.pop.new.self.items ++ option_to_list z) c.in-Some.is, gathers_one b.actor_of (IsSound b.may_push) c.kept.inside.seat _ _ _ c.kept.view_is c.kept.invariant);
}

pub join-requires-clause-board : goal.join-requires-clause-board
join-requires-clause-board g c =
    let Own : Sitting g.row.B-Event.Denot g.row.B-Setting.Denot → Type 0 = λ s. s.lock ≡ c.args.board.now.table_id in
    let h = (All-pop Own _ _ _ c.pop-in-loop-other.ensures.items c.loop-other.invariant.own).1 in
    let own : c.in-Some-pop.other.lock ≡ c.args.board.now.table_id = subst (λ z. IfSome z Own) c.in-Some-pop.is h in
    (c.loop-other.invariant.same, ap (λ z. z.lock) c.other.view_is ∙ own, c.requires.board)

pub join-requires-clause-other : goal.join-requires-clause-other
join-requires-clause-other g c = let b = g.B.Chronicle in idle_one b.actor_of (IsSound b.may_push) c.other.inside.seat _ _ c.other.invariant

pub loop-other-preserved : goal.loop-other-preserved
loop-other-preserved g c = let b = g.B.Chronicle in let d = c.loop-other.invariant.done in record {
  same = search rules;
  own = (All-pop (λ s. s.lock ≡ c.args.board.now.table_id) _ _ _ c.pop-in-loop-other.ensures.items c.loop-other.invariant.own).0;
  done = (
    c.in-Some-pop.other ∷ d.0,
    d.1 ∙ (ap (λ z. z ++ d.0) (c.pop-in-loop-other.ensures.items ∙ ap (λ z. c.pop-in-loop-other.new.self.items ++ option_to_list z) c.in-Some-pop.is) ∙ append_assoc c.pop-in-loop-other.new.self.items (c.in-Some-pop.other ∷ []) d.0),
    gathers_more b.actor_of (IsSound b.may_push) _ _ _ c.other.inside.seat _ _ _ d.2 c.other.view_is c.other.invariant c.join.ensures.took_in,
  );
}
