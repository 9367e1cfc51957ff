-- The operations that a script can name.
use Rattle.std.specs.Prelude.{ℕ, List, codes, if◌then◌else◌, Option, Some, None}
use Rattle.fal_script.specs.Words.{is_word}
use Rattle.fal_script.specs.declared.verbs.Verb.{Verb}
use Rattle.fal_script.specs.declared.verbs.Verb.TheVariants as verb

-- the operation that a word names
unfoldable pub verb_word : List ℕ → Option Verb
verb_word word =
    if is_word (codes "mkdir") word then Some verb.Mkdir
    else (if is_word (codes "create") word then Some verb.Create
    else (if is_word (codes "stat") word then Some verb.Stat
    else (if is_word (codes "access") word then Some verb.Access
    else (if is_word (codes "chmod") word then Some verb.Chmod
    else (if is_word (codes "chown") word then Some verb.Chown
    else (if is_word (codes "truncate") word then Some verb.Truncate
    else (if is_word (codes "unlink") word then Some verb.Unlink
    else (if is_word (codes "rmdir") word then Some verb.Rmdir
    else (if is_word (codes "rename") word then Some verb.Rename
    else (if is_word (codes "list") word then Some verb.List
    else (if is_word (codes "place") word then Some verb.Place else None)))))))))))
