use Rattle.std.proofs.Common.{◌++◌, List, sym, ap, ◌∙◌, subst, append_assoc}
use Rattle.std.specs.List.{All}
use Rattle.fal_wait.specs.Waiting.{count_to}
use Rattle.fal_wire.specs.Messages.{Fits}
use Rattle.fal_wire.specs.declared.letter.Letter.{Letter}
use Rattle.fal_node.specs.Gather.{gather_letters}
use Rattle.fal_node.specs.Sends.{sending_letters}
use Rattle.fal_node.proofs.Gathered.{gather_letters-cons, all_back}
use Rattle.fal_node.proofs.gather.gather_letters.Goals as goal

pub loop-sending-preserved : goal.loop-sending-preserved
loop-sending-preserved c =
    let n = c.args.node.now.state in
    let number = count_to c.loop-sending.last in
    let entry = c.in-Some.sending.now in
    let here : List Letter = sending_letters n number entry in
    let later : List Letter = gather_letters n (count_to c.in_ok-last.last) c.in-Some.others.now in
    let apart = ap (λ entries. gather_letters n number entries) c.in-Some.ensures.cases.0 ∙ gather_letters-cons n number entry c.in-Some.others.now
    ∙ ap (λ k. here ++ gather_letters n k c.in-Some.others.now) (sym c.in_ok-last.ensures.last) in
    record {
      whole = ap (λ letters. letters ++ later) c.in_ok-last.ensures.letters ∙ append_assoc c.loop-sending.letters.items here later
          ∙ ap (λ letters. c.loop-sending.letters.items ++ letters) (sym apart) ∙ c.loop-sending.invariant.whole;
      within = all_back (λ (l : Letter). Fits l.message) here later (subst (λ letters. All (λ (l : Letter). Fits l.message) letters) apart c.loop-sending.invariant.within);
    }
