-- The bytes that bits fill.
use Rattle.std.proofs.Common.{◌≡◌, ◌+◌, ◌-◌, ◌*◌, ◌^◌, ◌<◌, Bool, false, List, ℕ, length, drop, replicate, refl, sym, ap, ◌∙◌, arith, length-append}
use Rattle.std.proofs.lemmas.List.{drop_at, length-replicate}
use Rattle.bit_pack.specs.Bits.{packed}
use Rattle.bit_pack.specs.Written.{first_bits, IsWhole}
use Rattle.bit_pack.proofs.Packing.{packed_law, length-bits_of}
use Rattle.bit_pack.proofs.Filling.{first_packed}

pub packed_whole : (bits : List Bool) → length bits < 2 ^ 32 → IsWhole (packed bits) (length bits)
packed_whole bits small =
    let p = packed_law bits in
    let h = p.holds in
    let long : 8 * length (packed bits) ≡ length bits + h.padding = omega (arith, sym (length-bits_of (packed bits)) ∙ ap length h.is, length-append bits (replicate h.padding false), length-replicate h.padding false) in
    let left : h.padding ≡ 8 * length (packed bits) - length bits = omega arith in
    record {
      filled = record {
        free = record {
          inside = omega arith;
          zeros = ap (drop (length bits)) h.is ∙ (drop_at bits (replicate h.padding false) (length bits) refl ∙ ap (λ k. replicate k false) left);
        };
        few = omega (arith, h.few);
      };
      are_bytes = p.bytes;
      few = small;
    }

-- bytes and a number that are these tell the bits
pub spelled : (bits : List Bool) (bytes : List ℕ) (n : ℕ) → length bits < 2 ^ 32 → bytes ≡ packed bits → n ≡ length bits → (first_bits bytes n ≡ bits) × IsWhole bytes n
spelled bits bytes n small e l = rw (e, l) (first_packed bits, packed_whole bits small)
