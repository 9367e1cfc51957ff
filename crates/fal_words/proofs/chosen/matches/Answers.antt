use Rattle.std.proofs.Common.{◌≡◌, map, string_bytes, ◌∙◌}
use Rattle.clap.specs.Simple.{app_of}
use Rattle.fal_words.specs.declared.fault.WordsFault.TheVariants as fault
use Rattle.fal_words.proofs.Grammar.{found_read, refused_read, strings_are_utf8}
use Rattle.fal_words.proofs.chosen.matches.Goals as goal

pub returns-in-Ok-clause-found : goal.returns-in-Ok-clause-found
returns-in-Ok-clause-found c =
    found_read (app_of c.in_ok-command.field-0) (map string_bytes c.args.words.now) c.in-Ok.matches c.in_ok-command.ensures (strings_are_utf8 c.args.words.now) c.in-Ok.ensures.kinds c.in-Ok.ensures.matches

pub returns-in-Err-clause-usage : goal.returns-in-Err-clause-usage
returns-in-Err-clause-usage c usage =
    let same : c.fault_by.result ≡ fault.Usage = cc in
    refused_read (app_of c.in_ok-command.field-0) (map string_bytes c.args.words.now) c.in-Err.error c.in_ok-command.ensures (strings_are_utf8 c.args.words.now) c.in-Err.ensures.kinds
    (λ memory. c.fault_by.ensures same (c.kind.ensures ∙ memory))
