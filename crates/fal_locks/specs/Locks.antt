-- The locks of a node: which batch holds which keys, and the keys that an operation has shut.
use Rattle.std.specs.Prelude.{◌≡◌, ℕ, Bool, false, not, List, [], ◌∷◌, ◌++◌, length, filter, Option, None, Some, IsTrue, if◌then◌else◌, ◌==◌, nat_lt}
use Rattle.std.specs.List.{list_any, position}
use Rattle.std.specs.Option.{option_map}
use Rattle.fal_base.specs.declared.key.Key.{Key}
use Rattle.fal_locks.specs.declared.holder.Holder.{Holder}
use Rattle.fal_locks.specs.declared.holder.Shut.{Shut}
use Rattle.fal_locks.specs.Keys.{has_key, has_name}

-- the holders in the order in which they came, and the operation that has shut keys, if there is one
pub record LockTable : Type 0 where
  pub holders : List Holder
  pub shut : Option Shut

-- what contracts see of `Locks`: the table, and for how many more holders or keys there is room
pub record LocksSeen : Type 0 where
  pub table : LockTable
  pub spare : ℕ

abbrev pub no_locks : LockTable
no_locks = record { holders = []; shut = None }

-- whether this batch holds keys
abbrev pub has_holder : LockTable → ℕ → Bool
has_holder table holder = list_any (λ h. h.number == holder) table.holders

-- whether some batch holds the key
abbrev pub is_held : LockTable → Key → Bool
is_held table key = list_any (λ h. has_key h.keys key) table.holders

-- whether some batch holds a key with this name
abbrev pub is_name_held : LockTable → List ℕ → Bool
is_name_held table name = list_any (λ h. has_name h.keys name) table.holders

-- whether some batch holds a key other than the root's, whose name is empty
abbrev pub is_any_held : LockTable → Bool
is_any_held table = list_any (λ h. list_any (λ key. nat_lt 0 (length key.name)) h.keys) table.holders

abbrev pub shut_keys_of : Option Shut → List Key
shut_keys_of None = []
shut_keys_of (Some shut) = shut.keys

-- the keys that are shut
abbrev pub shut_keys : LockTable → List Key
shut_keys table = shut_keys_of table.shut

abbrev pub is_shut : LockTable → Key → Bool
is_shut table key = has_key (shut_keys table) key

-- the operation that has shut keys
abbrev pub shut_op : LockTable → Option ℕ
shut_op table = option_map (λ shut. shut.op) table.shut

-- the place of the first key of the list that is shut
abbrev pub first_shut : LockTable → List Key → Option ℕ
first_shut table keys = position (λ key. is_shut table key) keys

-- the place of the first key of the list that some batch holds
abbrev pub first_held : LockTable → List Key → Option ℕ
first_held table keys = position (λ key. is_held table key) keys

-- this batch holds the keys, too
abbrev pub with_holder : LockTable → ℕ → List Key → LockTable
with_holder table holder keys = record table { holders = table.holders ++ record { number = holder; keys = keys } ∷ [] }

-- this batch holds nothing
abbrev pub without_holder : LockTable → ℕ → LockTable
without_holder table holder = record table { holders = filter (λ h. not (h.number == holder)) table.holders }

-- this operation has shut the keys
abbrev pub with_shut : LockTable → ℕ → List Key → LockTable
with_shut table op keys = record table { shut = Some (record { op = op; keys = keys }) }

abbrev pub unless_of : ℕ → Option Shut → Option Shut
unless_of op None = None
unless_of op (Some shut) = if shut.op == op then None else Some shut

-- this operation has shut nothing
abbrev pub without_shut : LockTable → ℕ → LockTable
without_shut table op = record table { shut = unless_of op table.shut }

-- no key is held and shut at once
abbrev pub IsApart : LockTable → Type 0
IsApart table = (key : Key) → IsTrue (is_held table key) → is_shut table key ≡ false
