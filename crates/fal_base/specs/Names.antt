-- What bytes mean as a name: one component of a path (POSIX.1-2017, XBD 3.170 and NAME_MAX), and no `.` or `..`.
use Rattle.std.specs.Prelude.{ℕ, Bool, false, List, [], ◌∷◌, length, if◌then◌else◌, ◌==◌, nat_lt, Result, Ok, Err, is_ok}
use Rattle.std.specs.List.{list_any}
use Rattle.fal_base.specs.declared.name.NameFault.{NameFault}
use Rattle.fal_base.specs.declared.name.NameFault.TheVariants.{Empty, TooLong, Slash, ZeroByte, Dot, OutOfMemory}
use Rattle.fal_base.specs.Paths.{is_dot}

-- whether the bytes have this fault
abbrev pub has_fault : NameFault → List ℕ → Bool
has_fault Empty bytes = length bytes == 0
has_fault TooLong bytes = nat_lt 255 (length bytes)
has_fault Slash bytes = list_any (λ b. b == 47) bytes
has_fault ZeroByte bytes = list_any (λ b. b == 0) bytes
has_fault Dot bytes = is_dot bytes
has_fault OutOfMemory bytes = false

-- the first of these faults that the bytes have, or else the bytes
abbrev pub name_unless : List NameFault → List ℕ → Result (List ℕ) NameFault
name_unless [] bytes = Ok bytes
name_unless (fault ∷ faults) bytes = if has_fault fault bytes then Err fault else name_unless faults bytes

abbrev pub name_of : List ℕ → Result (List ℕ) NameFault
name_of bytes = name_unless (Empty ∷ TooLong ∷ Slash ∷ ZeroByte ∷ Dot ∷ []) bytes

-- whether the bytes are a name
unfoldable pub is_name : List ℕ → Bool
is_name bytes = is_ok (name_of bytes)
