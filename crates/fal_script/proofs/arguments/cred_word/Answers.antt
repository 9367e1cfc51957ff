use Rattle.std.proofs.Common.{sym, ◌∙◌}
use Rattle.fal_script.proofs.Colon.{cred_cut, cred_uncut}
use Rattle.fal_script.proofs.arguments.cred_word.Goals as goal

pub returns-in-Some : goal.returns-in-Some
returns-in-Some c = c.cred_of_halves.ensures ∙ cred_cut c.args.word.now _ _ c.in-Some.ensures

pub returns-in-None : goal.returns-in-None
returns-in-None c = sym (cred_uncut c.args.word.now c.in-None.ensures)
