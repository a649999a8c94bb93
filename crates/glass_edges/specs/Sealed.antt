-- Files that end with a digest of all before it, of 32 bytes.
use Rattle.std.specs.Prelude.{ℕ, ◌-◌, List, length, take, drop}

-- all before the digest, and the digest
abbrev pub body_of : List ℕ → List ℕ
body_of bytes = take (length bytes - 32) bytes

abbrev pub digest_of : List ℕ → List ℕ
digest_of bytes = drop (length bytes - 32) bytes
