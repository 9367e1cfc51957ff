-- The hash of names: FNV-1a with 64 bits (Fowler, Noll and Vo). Each byte is taken in by exclusive or, and then a product follows.
use Rattle.std.specs.Prelude.{ℕ, ◌*◌, ◌%◌, ◌^◌, List, ◌++◌, fold, bit_xor}
use Rattle.std.specs.Int.{w64, to_be_bytes}

-- the hash after one more byte: the product by the prime wraps at 64 bits
abbrev pub hash_after : ℕ → ℕ → ℕ
hash_after hash byte = (bit_xor hash byte * 1099511628211) % 2 ^ 64

-- the hash of a name's bytes
unfoldable pub name_hash : List ℕ → ℕ
name_hash bytes = fold hash_after 14695981039346656037 bytes

-- the hash of a key: of the parent's 8 bytes, the highest first, and then the name's
unfoldable pub key_hash : ℕ → List ℕ → ℕ
key_hash parent name = name_hash (to_be_bytes w64 parent ++ name)
