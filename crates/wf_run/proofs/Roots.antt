-- The first instance of a run.
use Rattle.std.proofs.Common.{◌≡◌, ℕ, true, cond, [], ◌∷◌, Option, None, ap, ◌∙◌, sym, arith}
use Rattle.wf_model.specs.Grammar.{Grammar}
use Rattle.label_model.specs.Places.{chain_at}
use Rattle.bit_pack.specs.Bits.{packed}
use Rattle.bit_pack.specs.Written.{first_bits, IsWhole}
use Rattle.bit_pack.proofs.Filling.{first_packed}
use Rattle.wf_run.specs.Runs.{Prefix}
use Rattle.wf_run.specs.Opening.{closed_node, root_prefix}
use Rattle.wf_run.proofs.Packed.{packed_whole}
use Rattle.wf_model.specs.Composite.{is_composite}

-- the byte of one bit that is set
one_bit : first_bits (128 ∷ []) 1 ≡ true ∷ []
unfolding packed
one_bit = first_packed (true ∷ [])

pub one_whole : IsWhole (128 ∷ []) 1
unfolding packed
one_whole = packed_whole (true ∷ []) (omega arith)

abbrev pub begun : Grammar → Prefix
begun g = record { bits = true ∷ []; chain = chain_at g g.start 0 }

abbrev pub bare : Prefix
bare = record { bits = []; chain = None }

pub composite_root : (g : Grammar) (m : ℕ) (chain : Option ℕ) → m ≡ g.start → is_composite g m ≡ true → chain ≡ chain_at g m 0 → closed_node m (record { bits = first_bits (128 ∷ []) 1; chain = chain }) ≡ closed_node g.start (root_prefix g)
composite_root g m chain e c is =
    ap (λ bits. closed_node m (record { bits = bits; chain = chain })) one_bit
    ∙ (ap (λ (o : Option ℕ). closed_node m (record { bits = true ∷ []; chain = o })) is
    ∙ (ap (λ k. closed_node k (record { bits = true ∷ []; chain = chain_at g k 0 })) e
    ∙ ap (λ t. closed_node g.start (cond {A = Prefix} t (begun g) bare)) (sym c ∙ ap (is_composite g) e)))
