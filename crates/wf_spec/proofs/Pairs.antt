-- Pairs of ports that deps parts name.
use Rattle.std.proofs.Common.{◌≡◌, ◌&&◌, ℕ, Bool, true, false, List, bytes_eq, refl, sym, ap, subst, ◌∙◌, true≢false}
use Rattle.std.specs.List.{list_all, list_any}
use Rattle.wf_names.proofs.Found.{some_any}
use Rattle.wf_model.specs.declared.parts.DepsPart.{DepsPart}
use Rattle.wf_model.specs.declared.parts.PairPart.{PairPart}
use Rattle.wf_model.specs.Lists.{IsIn}
use Rattle.wf_model.specs.Grammar.{Module}
use Rattle.wf_model.proofs.Lists.{among_gives, among_from}
use Rattle.wf_spec.specs.Naming.{place_of, names_of, module_in}
use Rattle.wf_spec.specs.Pairs.{HasKnownPairs}
use Rattle.wf_spec.proofs.Tests.{all_gives, all_from}

-- the test of a pair
abbrev pub is_pair_of : Module → PairPart → Bool
is_pair_of m e = list_any (bytes_eq e.input) m.inputs && list_any (bytes_eq e.output) m.outputs

listed : (n : List ℕ) (ns : List (List ℕ)) → list_any (bytes_eq n) ns ≡ true → IsIn n ns
listed n ns h = among_gives n ns (some_any (bytes_eq n) ns ∙ h)

is_listed : (n : List ℕ) (ns : List (List ℕ)) → IsIn n ns → list_any (bytes_eq n) ns ≡ true
is_listed n ns h = sym (some_any (bytes_eq n) ns) ∙ among_from n ns h

pair_gives : (m : Module) (e : PairPart) → is_pair_of m e ≡ true → IsIn e.input m.inputs × IsIn e.output m.outputs
pair_gives m e h = by (list_any (bytes_eq e.input) m.inputs) (list_any (bytes_eq e.output) m.outputs) refl refl h
  where
    by : (a b : Bool) → list_any (bytes_eq e.input) m.inputs ≡ a → list_any (bytes_eq e.output) m.outputs ≡ b → a && b ≡ true → IsIn e.input m.inputs × IsIn e.output m.outputs
    by true true p q t = (listed e.input m.inputs p, listed e.output m.outputs q)
    by true false p q t = absurd (true≢false (sym t))
    by false b p q t = absurd (true≢false (sym t))

pair_from : (m : Module) (e : PairPart) → IsIn e.input m.inputs × IsIn e.output m.outputs → is_pair_of m e ≡ true
pair_from m e h = ap (λ b. b && list_any (bytes_eq e.output) m.outputs) (is_listed e.input m.inputs h.0) ∙ is_listed e.output m.outputs h.1

pub pairs_give : (modules : List Module) (d : DepsPart) (m : Module) (pairs : List PairPart) (b : Bool) → m ≡ module_in modules (place_of (names_of modules) d.«module») → pairs ≡ d.pairs
    → b ≡ list_all (is_pair_of m) pairs → b ≡ true → HasKnownPairs modules d
pairs_give modules d m pairs b at is told good e i =
    subst (λ (r : Module). IsIn e.input r.inputs × IsIn e.output r.outputs) at
    (pair_gives m e (all_gives (is_pair_of m) pairs (sym told ∙ good) e (subst (IsIn e) (sym is) i)))

pub pairs_from : (modules : List Module) (d : DepsPart) (m : Module) (pairs : List PairPart) (b : Bool) → m ≡ module_in modules (place_of (names_of modules) d.«module») → pairs ≡ d.pairs
    → b ≡ list_all (is_pair_of m) pairs → b ≡ false → HasKnownPairs modules d → ⊥
pairs_from modules d m pairs b at is told bad h =
    true≢false (sym (told ∙ all_from (is_pair_of m) pairs (λ e i.
    pair_from m e (subst (λ (r : Module). IsIn e.input r.inputs × IsIn e.output r.outputs) (sym at) (h e (subst (IsIn e) is i))))) ∙ bad)
