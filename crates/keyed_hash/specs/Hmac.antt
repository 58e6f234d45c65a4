-- HMAC over SHA-256 (RFC 2104 with FIPS 180-4), on lists of bytes.
use Rattle.std.specs.Prelude.{ℕ, ◌-◌, List, ◌++◌, length, map, replicate, bit_xor, if◌then◌else◌, nat_lt}
use Rattle.sha2.specs.Sha256.{sha256}

-- the key as one block of 64 bytes: a longer key counts as its digest, a shorter one is filled with zeros
abbrev pub block_of : List ℕ → List ℕ
block_of key = if nat_lt 64 (length key)
    then sha256 key ++ replicate 32 0
    else key ++ replicate (64 - length key) 0

-- each byte of the block by exclusive or with the same byte
abbrev pub pad_of : ℕ → List ℕ → List ℕ
pad_of with block = map (λ (b : ℕ). bit_xor b with) block

-- the code of a message under a key
abbrev pub hmac_sha256 : List ℕ → List ℕ → List ℕ
hmac_sha256 key message =
    sha256 (pad_of 0x5C (block_of key) ++ sha256 (pad_of 0x36 (block_of key) ++ message))
