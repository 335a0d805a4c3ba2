-- What a clause reads of a `KeyedHash`.
use Rattle.std.specs.declared.hash.DefaultHasher.{DefaultHasher}
use Rattle.wf_names.specs.declared.keyed.KeyedHash.{KeyedHash}

-- the hasher with which the hash of each name begins
abbrev pub first_hasher : KeyedHash → DefaultHasher
first_hasher s = s.first
