use Rattle.std.proofs.Common.{[], subst}
use Rattle.std.specs.List.{All}
use Rattle.std.proofs.lemmas.List.Elements.{All-head}
use Rattle.fal_wait.specs.Waiting.{count_to}
use Rattle.fal_wire.specs.Messages.{Fits}
use Rattle.fal_wire.specs.declared.letter.Letter.{Letter}
use Rattle.fal_node.specs.Gather.{ask_letter}
use Rattle.fal_node.specs.Sends.{sending_letters}
use Rattle.fal_node.proofs.Gathered.{ask_number}
use Rattle.fal_node.proofs.gather.add_sending.Goals as goal

pub number_after-number-requires : goal.number_after-number-requires
number_after-number-requires c =
    let n = c.args.node.now.state in
    let number = count_to c.args.last in
    let one = subst (λ entry. All (λ (l : Letter). Fits l.message) (sending_letters n number entry)) c.in-Fetch.is c.requires in
    ask_number n number c.in-Fetch.key (All-head (λ (l : Letter). Fits l.message) (ask_letter n number c.in-Fetch.key) [] one)
