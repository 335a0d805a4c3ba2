-- Bits that bytes hold, as the first bits of the bytes.
use Rattle.std.proofs.Common.{◌≡◌, ◌+◌, ◌-◌, ◌*◌, ◌^◌, ◌<◌, Bool, false, List, ℕ, length, take, drop, replicate, sym, ap, ◌∙◌, arith, length-append}
use Rattle.std.proofs.lemmas.List.{take_at, drop_at, length-replicate}
use Rattle.bit_pack.specs.Bits.{AreBytes, Holds}
use Rattle.bit_pack.specs.Written.{first_bits, IsWhole}
use Rattle.bit_pack.proofs.Packing.{length-bits_of}

pub holds_whole : (bits : List Bool) (bytes : List ℕ) (n : ℕ) → Holds bytes bits → AreBytes bytes → n ≡ length bits → n < 2 ^ 32 → IsWhole bytes n
holds_whole bits bytes n h are e small =
    let long : 8 * length bytes ≡ n + h.padding = omega (arith, sym (length-bits_of bytes) ∙ ap length h.is, length-append bits (replicate h.padding false), length-replicate h.padding false, e) in
    let left : h.padding ≡ 8 * length bytes - n = omega arith in
    record {
      filled = record {
        free = record {
          inside = omega arith;
          zeros = ap (drop n) h.is ∙ (drop_at bits (replicate h.padding false) n (sym e) ∙ ap (λ k. replicate k false) left);
        };
        few = omega (arith, h.few);
      };
      are_bytes = are;
      few = small;
    }

pub holds_first : (bits : List Bool) (bytes : List ℕ) (n : ℕ) → Holds bytes bits → n ≡ length bits → first_bits bytes n ≡ bits
holds_first bits bytes n h e = ap (take n) h.is ∙ take_at bits (replicate h.padding false) n (sym e)
