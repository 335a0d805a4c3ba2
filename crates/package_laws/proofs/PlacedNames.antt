-- The modules of a package and their ports are named by their places.
use Rattle.std.proofs.Common.{◌≡◌, ℕ, zero, suc, ◌+◌, ◌<◌, List, [], ◌∷◌, length, get_or, ap, ◌∙◌, subst, arith}
use Rattle.std.proofs.lemmas.List.{length-map}
use Rattle.wf_model.specs.Lists.{numbers_from}
use Rattle.wf_model.specs.Grammar.{Grammar, Module, module_at, inputs_of, outputs_of}
use Rattle.wf_model.proofs.NumberLists.{length-numbers, get_numbered}
use Rattle.package_model.specs.Shown.{Shown, ShownModule}
use Rattle.package_model.specs.Packages.{numbered, numbered_names, module_name, package_module, package_modules, package_of}

-- modules and ports have the names of their places
pub record AreNamedByPlace (g : Grammar) : Type 0 where
  pub modules : (m : ℕ) → m < length g.modules → (module_at g m).name ≡ module_name m
  pub inputs : (m i : ℕ) → m < length g.modules → i < inputs_of g m → get_or (module_at g m).inputs i [] ≡ numbered 105 i
  pub outputs : (m o : ℕ) → m < length g.modules → o < outputs_of g m → get_or (module_at g m).outputs o [] ≡ numbered 111 o

-- a module of a package is made of what is shown at its place
module_placed : (c j : ℕ) (ss : List ShownModule) (d : Module) → j < length (package_modules c ss) →
    (x : ShownModule) × (get_or (package_modules c ss) j d ≡ package_module (c + j) x)
module_placed c j [] d h = absurd (omega arith)
module_placed c zero (s ∷ ss) d h = let e : c ≡ c + 0 = omega arith in (s, ap (λ k. package_module k s) e)
module_placed c (suc j) (s ∷ ss) d h =
    let r = module_placed (suc c) j ss d (omega arith) in
    let e : suc c + j ≡ c + suc j = omega arith in
    (r.0, r.1 ∙ ap (λ k. package_module k r.0) e)

name_placed : (letter n k : ℕ) → k < length (numbered_names letter n) → get_or (numbered_names letter n) k [] ≡ numbered letter k
name_placed letter n k h =
    let below = subst (λ z. k < z) (length-map (numbers_from 0 n) (numbered letter) ∙ length-numbers 0 n) h in
    let e : 0 + k ≡ k = omega arith in
    get_numbered (numbered letter) 0 n k [] below ∙ ap (numbered letter) e

pub package_named : (s : Shown) → AreNamedByPlace (package_of s)
package_named s = record {
  modules = λ m below. ap (λ (x : Module). x.name) (own m below).1;
  inputs = λ m i below inside.
      let o = own m below in
      ap (λ (x : Module). get_or x.inputs i []) o.1 ∙ name_placed 105 o.0.ins i (subst (λ (x : Module). i < length x.inputs) o.1 inside);
  outputs = λ m i below inside.
      let o = own m below in
      ap (λ (x : Module). get_or x.outputs i []) o.1 ∙ name_placed 111 o.0.outs i (subst (λ (x : Module). i < length x.outputs) o.1 inside);
}
  where
    own : (m : ℕ) → m < length (package_of s).modules → (x : ShownModule) × (module_at (package_of s) m ≡ package_module m x)
    own m below =
        let e : 0 + m ≡ m = omega arith in
        let r = module_placed 0 m s.modules _ below in
        (r.0, r.1 ∙ ap (λ k. package_module k r.0) e)
