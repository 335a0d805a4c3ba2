-- Ports that the pairs of deps parts name.
use Rattle.std.proofs.Common.{◌≡◌, ℕ, suc, ◌<◌, ◌≤◌, ◌==◌, ◌&&◌, Bool, true, false, List, [], ◌∷◌, length, bytes_eq, refl, sym, ap, ◌∙◌, arith}
use Rattle.std.specs.List.{list_all, list_any}
use Rattle.std.proofs.lemmas.Bool.Decides.{nat_tests}
use Rattle.std.proofs.lemmas.List.{get_or_past}
use Rattle.wf_model.specs.declared.parts.DepsPart.{DepsPart}
use Rattle.wf_model.specs.declared.parts.PairPart.{PairPart}
use Rattle.wf_model.specs.Grammar.{Grammar, Module, module_at}
use Rattle.wf_spec.specs.Pairs.{HasKnownPairs}
use Rattle.wf_spec.proofs.Pairs.{pairs_give, pairs_from, is_pair_of}
use Rattle.wf_view.specs.Rules.{number_in}

-- so does each pair of a part
abbrev pub are_known : Grammar → DepsPart → Bool
are_known g d = list_all (is_pair_of (module_at g (number_in g d.«module»))) d.pairs

pub known_gives : (g : Grammar) (d : DepsPart) → are_known g d ≡ true → HasKnownPairs g.modules d
known_gives g d h = pairs_give g.modules d (module_at g (number_in g d.«module»)) d.pairs (are_known g d) refl refl refl h

pub known_from : (g : Grammar) (d : DepsPart) → HasKnownPairs g.modules d → are_known g d ≡ true
known_from g d h = by (are_known g d) refl
  where
    by : (b : Bool) → are_known g d ≡ b → are_known g d ≡ true
    by true e = e
    by false e = absurd (pairs_from g.modules d (module_at g (number_in g d.«module»)) d.pairs (are_known g d) refl refl refl e h)

-- a module without inputs has no pairs
no_inputs : (m : Module) (pairs : List PairPart) → m.inputs ≡ [] → (length pairs == 0) ≡ list_all (is_pair_of m) pairs
no_inputs m [] none = refl
no_inputs m (e ∷ pairs) none = some_there (suc (length pairs)) (omega arith) ∙ sym (ap (λ ports. (list_any (bytes_eq e.input) ports && list_any (bytes_eq e.output) m.outputs) && list_all (is_pair_of m) pairs) none)
  where
    some_there : (n : ℕ) → 0 < n → (n == 0) ≡ false
    some_there n h = grind (arith, nat_tests)

-- so has a number past the modules
pub none_past : (g : Grammar) (m : ℕ) (pairs : List PairPart) → length g.modules ≤ m → (length pairs == 0) ≡ list_all (is_pair_of (module_at g m)) pairs
none_past g m pairs past = no_inputs (module_at g m) pairs (ap (λ (k : Module). k.inputs) (get_or_past g.modules m _ past))
