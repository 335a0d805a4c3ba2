-- The bits of a label in a state.
use Rattle.std.proofs.Common.{◌≡◌, ℕ, ◌+◌, ◌*◌, ◌^◌, ◌<◌, ◌≤◌, Bool, List, ◌++◌, length, take, refl, sym, ap, ◌∙◌}
use Rattle.std.proofs.lemmas.List.{take_at, take-take}
use Rattle.wf_model.specs.Grammar.{Grammar}
use Rattle.bit_pack.specs.Bits.{bits_of, packed}
use Rattle.bit_pack.specs.Gamma.{gamma}
use Rattle.bit_pack.specs.Written.{first_bits, IsWhole}
use Rattle.bit_pack.proofs.Packing.{packed_law}
use Rattle.bit_pack.proofs.Filling.{packed_filled, first_packed}
use Rattle.label_model.specs.Labels.{Label, Input, Output, OfEdge, label_bits}
use Rattle.wf_label.specs.Values.{AreLabelBits}
use Rattle.words_model.specs.Lifting.{in_state, lift, lift_label}
use Rattle.words_model.proofs.LiftedLabels.{label_in}
use Rattle.wf_words.specs.LastParts.{port_or_edge, bits_to_number, IsLastPartOf, AreLiftedBits}
use Rattle.wf_words.proofs.LastParts.{spelled_last}

-- lifting leaves the bits before the last number as they are
lifted_front : (k s : ℕ) (l : Label) → bits_to_number (lift_label k s l) ≡ bits_to_number l
lifted_front k s (Input p) = refl
lifted_front k s (Output p) = refl
lifted_front k s (OfEdge p) = refl

-- and it brings that number into the state
lifted_number : (k s : ℕ) (l : Label) → port_or_edge (lift_label k s l) ≡ in_state k s (port_or_edge l)
lifted_number k s (Input p) = refl
lifted_number k s (Output p) = refl
lifted_number k s (OfEdge p) = refl

lifted_spelled : (k s : ℕ) (l : Label) → label_bits (lift_label k s l) ≡ bits_to_number l ++ gamma (in_state k s (port_or_edge l) + 1)
lifted_spelled k s l =
    spelled_last (lift_label k s l) ∙ (ap (λ x. x ++ gamma (port_or_edge (lift_label k s l) + 1)) (lifted_front k s l) ∙ ap (λ n. bits_to_number l ++ gamma (n + 1)) (lifted_number k s l))

-- so the bits before the last number, and the code of that number in the state, are the bits of the label in the state
pub lifted_bits : (g : Grammar) (k s : ℕ) (bits new : List Bool) (at n : ℕ) → IsLastPartOf g bits at n → new ≡ take at bits ++ gamma (in_state k s n + 1) → AreLiftedBits g k s bits new
lifted_bits g k s bits new at n last is l of e =
    let p = last l of e in
    let front : take at bits ≡ bits_to_number l = ap (take at) (e ∙ spelled_last l) ∙ take_at (bits_to_number l) (gamma (port_or_edge l + 1)) at (sym p.before) in
    is ∙ (ap (λ x. x ++ gamma (in_state k s n + 1)) front ∙ (ap (λ m. bits_to_number l ++ gamma (in_state k s m + 1)) p.number ∙ sym (lifted_spelled k s l)))

-- which is a label of the lifted grammar
pub lifted_label_bits : (g : Grammar) (k s : ℕ) (bits new : List Bool) → s < k → AreLabelBits g bits → AreLiftedBits g k s bits new → AreLabelBits (lift g k) new
lifted_label_bits g k s bits new low h lifted = (lift_label k s h.0, label_in g k s h.0 low h.1, lifted h.0 h.1 h.2)

-- the bytes that bits fill
pub packed_whole : (bits : List Bool) (bytes : List ℕ) (n : ℕ) → length bits < 2 ^ 32 → bytes ≡ packed bits → n ≡ length bits → IsWhole bytes n
packed_whole bits bytes n small e l = rw (e, l) (record { filled = packed_filled bits; are_bytes = (packed_law bits).bytes; few = small })

pub packed_read : (bits : List Bool) (bytes : List ℕ) (n : ℕ) → bytes ≡ packed bits → n ≡ length bits → first_bits bytes n ≡ bits
packed_read bits bytes n e l = rw (e, l) (first_packed bits)

-- the bits that bytes hold are within them, and the first of these are the first bits of the bytes
pub held_within : (bits : List Bool) (bytes : List ℕ) → bytes ≡ packed bits → length bits ≤ 8 * length bytes
held_within bits bytes e = rw e (packed_filled bits).free.inside

pub packed_front : (bits : List Bool) (bytes : List ℕ) (at : ℕ) → bytes ≡ packed bits → at ≤ length bits → first_bits bytes at ≡ take at bits
packed_front bits bytes at e low = rw e (sym (take-take at (length bits) (bits_of (packed bits)) low) ∙ ap (take at) (first_packed bits))
