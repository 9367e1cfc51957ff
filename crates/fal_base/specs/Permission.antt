-- Who may do what: the file access permissions of POSIX.1-2017, XBD 4.5.
use Rattle.std.specs.Prelude.{ℕ, ◌/◌, ◌%◌, Bool, true, if◌then◌else◌, ◌==◌, bit_and}

-- the one class of bits that applies: the owner's, else the group's, else the others'
abbrev pub class_of : ℕ → ℕ → ℕ → ℕ → ℕ → ℕ
class_of uid gid mode owner group = if uid == owner then mode / 64 % 8 else (if gid == group then mode / 8 % 8 else mode % 8)

-- uid 0 may do all, and anyone else what its class has, each wanted bit of it
abbrev pub may : ℕ → ℕ → ℕ → ℕ → ℕ → ℕ → Bool
may uid gid mode owner group want = if uid == 0 then true else bit_and (class_of uid gid mode owner group) want == want
