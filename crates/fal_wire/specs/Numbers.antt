-- Fields that are one number, and those of a few numbers.
use Rattle.std.specs.Prelude.{ℕ, ◌^◌, ◌||◌, ◌&&◌, nat_lt, nat_le, ◌==◌}
use Rattle.fal_base.specs.declared.call.CallId.{CallId}
use Rattle.fal_base.specs.declared.call.Cred.{Cred}
use Rattle.fal_wire.specs.Format.{Format, byte, number, judged, ◌⊗◌, shaped}

-- a node's number: 0 to 15
unfoldable pub node_field : Format ℕ
node_field = judged byte (λ n. nat_lt n 16)

-- who asks for a directory: a node, or 255, the coordinator
unfoldable pub asker_field : Format ℕ
asker_field = judged byte (λ n. nat_lt n 16 || (n == 255))

-- an operation's number: at least 1
unfoldable pub operation_field : Format ℕ
operation_field = judged (number 4) (λ n. nat_lt 0 n)

-- a version that a rule was set with: at least 1
unfoldable pub version_field : Format ℕ
version_field = judged (number 4) (λ n. nat_lt 0 n)

-- the nine permission bits: at most 777 octal
unfoldable pub mode_field : Format ℕ
mode_field = judged (number 2) (λ n. nat_lt n 512)

-- what is wanted of an inode: three bits
unfoldable pub want_field : Format ℕ
want_field = judged byte (λ n. nat_lt n 8)

-- a file's size: below 2 ^ 63
unfoldable pub size_field : Format ℕ
size_field = judged (number 8) (λ n. nat_lt n (2 ^ 63))

-- an inode's number: at least 1
unfoldable pub ino_field : Format ℕ
ino_field = judged (number 8) (λ n. nat_lt 0 n)

-- how many keys are locked: 1 or 2
unfoldable pub one_or_two : Format ℕ
one_or_two = judged byte (λ n. nat_lt 0 n && nat_lt n 3)

-- how many rows are locked or changed: at most 2
unfoldable pub at_most_two : Format ℕ
at_most_two = judged byte (λ n. nat_lt n 3)

-- how many rules are set: at most 1,024
unfoldable pub rule_count : Format ℕ
rule_count = judged (number 2) (λ n. nat_le n 1024)

-- the version after the old one: greater than it
unfoldable pub version_above : ℕ → Format ℕ
version_above old = judged (number 4) (λ new. nat_lt old new)

-- the lane that calls: 1 to 16
unfoldable pub lane_field : Format ℕ
lane_field = judged byte (λ n. nat_lt 0 n && nat_lt n 17)

-- a call's number in its lane, or an attempt's: at least 1
unfoldable pub ordinal_field : Format ℕ
ordinal_field = judged (number 4) (λ n. nat_lt 0 n)

-- who calls: uid, gid
unfoldable pub cred_field : Format Cred
cred_field = shaped (λ c. (c.uid, c.gid)) (λ f. record { uid = f.0; gid = f.1 }) (number 4 ⊗ number 4)

-- which call: the lane, its number there, the attempt, and how often it was passed on
unfoldable pub id_field : Format CallId
id_field = shaped (λ i. (i.client, (i.seq, (i.attempt, i.hop)))) (λ f. record { client = f.0; seq = f.1.0; attempt = f.1.1.0; hop = f.1.1.1 })
    (lane_field ⊗ ordinal_field ⊗ ordinal_field ⊗ number 4)
