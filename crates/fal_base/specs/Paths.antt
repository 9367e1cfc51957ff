-- What bytes mean as a path: a POSIX pathname (POSIX.1-2017, XBD 3.271 and 4.13), in this service's profile.
-- Five rules are judged, each by a test of its own; the lowest broken one is the fault.
use Rattle.std.specs.Prelude.{ℕ, ◌+◌, Bool, false, ◌||◌, not, List, [], ◌∷◌, length, sum_by, filter, if◌then◌else◌, ◌==◌, nat_lt, Result, Ok, Err}
use Rattle.std.specs.List.{slice_split, list_any, starts_with}
use Rattle.std.specs.Cmp.Lexicographic.{pointwise}
use Rattle.fal_base.specs.declared.path.PathFault.{PathFault}
use Rattle.fal_base.specs.declared.path.PathFault.TheVariants.{Relative, TooLong, NameTooLong, Dot, ZeroByte, OutOfMemory}

-- the parts between slashes (47) that are not empty
abbrev pub components : List ℕ → List (List ℕ)
components bytes = filter (λ part. nat_lt 0 (length part)) (slice_split (λ b. b == 47) bytes)

-- the bytes of a path of these names, each with the slash before it
abbrev pub path_bytes : List (List ℕ) → ℕ
path_bytes names = sum_by (λ name. length name + 1) names

-- `.` or `..`
abbrev pub is_dot : List ℕ → Bool
is_dot name = pointwise ◌==◌ name (46 ∷ []) || pointwise ◌==◌ name (46 ∷ 46 ∷ [])

-- whether the bytes break this rule; want of memory is no rule
abbrev pub breaks : PathFault → List ℕ → Bool
breaks Relative bytes = not (starts_with ◌==◌ bytes (47 ∷ []))
breaks TooLong bytes = nat_lt 4095 (length bytes)
breaks NameTooLong bytes = list_any (λ name. nat_lt 255 (length name)) (components bytes)
breaks Dot bytes = list_any is_dot (components bytes)
breaks ZeroByte bytes = list_any (λ b. b == 0) bytes
breaks OutOfMemory bytes = false

-- the first of these rules that is broken, or else the names
abbrev pub names_unless : List PathFault → List ℕ → Result (List (List ℕ)) PathFault
names_unless [] bytes = Ok (components bytes)
names_unless (rule ∷ rules) bytes = if breaks rule bytes then Err rule else names_unless rules bytes

-- the names of the path, or the lowest rule that is broken
unfoldable pub path_of : List ℕ → Result (List (List ℕ)) PathFault
path_of bytes = names_unless (Relative ∷ TooLong ∷ NameTooLong ∷ Dot ∷ ZeroByte ∷ []) bytes
