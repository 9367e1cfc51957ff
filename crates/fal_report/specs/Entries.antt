-- The entries of a transcript as text, a line each.
use Rattle.std.specs.Prelude.{ℕ, List, [], ◌++◌, length, codes, Option, None, Some}
use Rattle.std.specs.Fmt.{decimal}
use Rattle.fal_base.specs.declared.call.Call.{Call}
use Rattle.fal_base.specs.declared.call.Config.{Config}
use Rattle.fal_base.specs.declared.entry.Entry.{Entry}
use Rattle.fal_base.specs.declared.entry.Entry.TheVariants.{Sent, Commit, Opened, Placed, Stale, Answered}
use Rattle.fal_base.specs.declared.reply.Errno.{Errno}
use Rattle.fal_base.specs.declared.reply.Errno.TheVariants.{Eacces, Ebusy, Eexist, Einval, Eisdir, Enametoolong, Enoent, Enospc, Enotdir, Enotempty, Eperm}
use Rattle.fal_base.specs.declared.reply.Reply.{Reply}
use Rattle.fal_base.specs.declared.reply.Reply.TheVariants as reply
use Rattle.fal_base.specs.Transcript.{call_of}
use Rattle.fal_report.specs.Calls.{call_text}
use Rattle.fal_report.specs.Escapes.{each_after}
use Rattle.fal_report.specs.Inodes.{inode_text}

abbrev pub errno_text : Errno → List ℕ
errno_text Eacces = codes "EACCES"
errno_text Ebusy = codes "EBUSY"
errno_text Eexist = codes "EEXIST"
errno_text Einval = codes "EINVAL"
errno_text Eisdir = codes "EISDIR"
errno_text Enametoolong = codes "ENAMETOOLONG"
errno_text Enoent = codes "ENOENT"
errno_text Enospc = codes "ENOSPC"
errno_text Enotdir = codes "ENOTDIR"
errno_text Enotempty = codes "ENOTEMPTY"
errno_text Eperm = codes "EPERM"

-- how many names a listing has, and each of them after a space (32)
unfoldable pub listing_text : List (List ℕ) → List ℕ
listing_text names = codes "names " ++ decimal (length names) ++ each_after 32 names

abbrev pub reply_text : Reply → List ℕ
reply_text reply.Fine = codes "ok"
reply_text (reply.Fail errno) = errno_text errno
reply_text (reply.Stat inode) = codes "stat " ++ inode_text inode
reply_text (reply.Names names) = listing_text names

-- the word of an entry, and its call by lane and number
unfoldable pub id_text : List ℕ → ℕ → ℕ → List ℕ
id_text word lane seq = word ++ codes " " ++ decimal lane ++ codes "." ++ decimal seq ++ codes " "

-- nothing is written for a call that the config does not have
abbrev pub sent_text : Option Call → List ℕ
sent_text None = []
sent_text (Some call) = call_text call

abbrev pub entry_text : Config → Entry → List ℕ
entry_text config (Sent lane seq) = id_text (codes "sent") lane seq ++ sent_text (call_of config lane seq) ++ codes "\n"
entry_text config (Commit lane seq ino) = id_text (codes "commit") lane seq ++ decimal ino ++ codes "\n"
entry_text config (Opened lane seq ino point) = id_text (codes "opened") lane seq ++ decimal ino ++ codes " " ++ decimal point ++ codes "\n"
entry_text config (Placed lane seq version) = id_text (codes "placed") lane seq ++ decimal version ++ codes "\n"
entry_text config (Stale lane seq old new) = id_text (codes "stale") lane seq ++ decimal old ++ codes " " ++ decimal new ++ codes "\n"
entry_text config (Answered lane seq point reply) = id_text (codes "answered") lane seq ++ decimal point ++ codes " " ++ reply_text reply ++ codes "\n"
