-- Bytes that are filled with bits.
use Rattle.std.proofs.Common.{None, ◌≡◌, ℕ, ◌<◌, List, [], map, get_or, length, arith, sym, ap, ◌∙◌}
use Rattle.wf_model.specs.Lists.{IsIn}
use Rattle.wf_model.proofs.Positions.{in_there}
use Rattle.std.proofs.lemmas.List.{get_or-map, length-map}
use Rattle.bit_pack.specs.Bits.{packed}
use Rattle.bit_pack.specs.Written.{first_bits, IsWhole}
use Rattle.bit_pack.proofs.Packing.{packed_law}
use Rattle.bit_pack.proofs.Filling.{filled_holds, length-first_bits}
use Rattle.wf_run.specs.declared.node.Node.{Node as NodeHeld}
use Rattle.wf_run.specs.Runs.{RunSeen, node_at}
use Rattle.wf_run.specs.Nodes.{node_of}

pub whole_packed : (bytes : List ℕ) (n : ℕ) → IsWhole bytes n → bytes ≡ packed (first_bits bytes n)
whole_packed bytes n w = (packed_law (first_bits bytes n)).only bytes w.are_bytes (filled_holds bytes n w.filled)

pub whole_length : (bytes : List ℕ) (n : ℕ) → IsWhole bytes n → n ≡ length (first_bits bytes n)
whole_length bytes n w = sym (length-first_bits bytes n w.filled.free.inside)

-- the instance of a number, as it is held
pub node_read : (xs : List NodeHeld) (r : RunSeen) (k : ℕ) (x : NodeHeld) → map node_of xs ≡ r.nodes → k < length r.nodes → x ≡ get_or xs k x → (IsIn x xs) × (node_at r k ≡ node_of x)
node_read xs r k x same lt e =
    let within : k < length xs = omega (arith, lt, sym (length-map xs node_of) ∙ ap length same) in
    (in_there xs k x within e, ap (λ l. get_or l k (record { module_no = 0; children = None; bits = []; chain = None })) (sym same) ∙ (get_or-map node_of xs k x (record { module_no = 0; children = None; bits = []; chain = None }) within ∙ ap node_of (sym e)))
