-- Bodies as they are kept, and places in them.
use Rattle.std.proofs.Common.{◌≡◌, ℕ, ◌<◌, List, [], ◌∷◌, map, length, get_or, Option, Some, None, bytes_eq, ◌≤◌, refl, sym, ap, ◌∙◌, subst}
use Rattle.std.proofs.lemmas.List.{length-map, get_or-map, get_or_default}
use Rattle.wf_model.specs.declared.body.Position.{Position as PositionHeld}
use Rattle.wf_model.specs.declared.parts.PosPart.{PosPart}
use Rattle.wf_model.specs.Lists.{IsIn}
use Rattle.wf_model.specs.Grammar.{Module, Position}
use Rattle.wf_model.specs.Meaning.{position_of}
use Rattle.wf_model.proofs.Lists.{in_map, in_map_from}
use Rattle.wf_form.specs.Forming.{module_at_place, placed, position_in}
use Rattle.wf_spec.specs.Naming.{module_in, names_of, place_of}
use Rattle.wf_spec.specs.FewPorts.{HasFewPorts, HaveFewPorts}
use Rattle.wf_form.specs.Resolving.{AreOfModules}
use Rattle.std.specs.Prelude.{position}
use Rattle.wf_spec.proofs.Finding.{absent_in, present_in}
use Rattle.wf_spec.proofs.Tables.{get_in}

-- the names in a body
pub names_kept : (body : List PositionHeld) → map (λ (q : Position). q.name) (map position_of body) ≡ map (λ (q : PositionHeld). q.name) body
names_kept [] = refl
names_kept (q ∷ body) = ap (λ ns. q.name ∷ ns) (names_kept body)

-- the module of a position is one of the list
pub module_below : (modules : List Module) (body : List PositionHeld) (k : ℕ) (q : PositionHeld) → AreOfModules modules (map position_of body)
    → k < length body → q ≡ get_or body k q → q.module.0 < length modules
module_below modules body k q known inside was =
    known (position_of q) (in_map position_of q body (subst (λ r. IsIn r body) (sym was) (get_in k body q inside)))

-- the module that stands at a place
pub module_there : (modules : List Module) (body : List PositionHeld) (k : ℕ) (q : PositionHeld) (m : Module) → k < length body → q ≡ get_or body k q
    → q.module.0 < length modules → m ≡ get_or modules q.module.0 m → m ≡ module_at_place modules (map position_of body) k
module_there modules body k q m inside was below is =
    is ∙ get_or_default modules q.module.0 m _ below
    ∙ sym (ap (module_in modules) (get_or-map (λ (r : Position). r.module_no) (map position_of body) k (position_of q) (length modules) (subst (λ n. k < n) (sym (length-map body position_of)) inside)
    ∙ ap (λ (r : Position). r.module_no) (get_or-map position_of body k q (position_of q) inside)
    ∙ ap (λ (r : PositionHeld). r.module.0) (sym was)))

-- its ports are few
pub few_there : (modules : List Module) (k : ℕ) (m : Module) → HaveFewPorts modules → k < length modules → m ≡ get_or modules k m → HasFewPorts m
few_there modules k m few below is = few m (subst (λ r. IsIn r modules) (sym is) (get_in k modules m below))

-- a position is not there
pub no_position : (body : List PositionHeld) (name : List ℕ) (answer : Option ℕ) → answer ≡ position (λ (q : PositionHeld). bytes_eq name q.name) body → answer ≡ None
    → length body ≤ position_in (map position_of body) name
no_position body name answer is none =
    subst (λ ns. length body ≤ place_of ns name) (sym (names_kept body)) (absent_in (λ (q : PositionHeld). q.name) body name answer is none)

-- a position is there
pub some_position : (body : List PositionHeld) (name : List ℕ) (answer : Option ℕ) (k : ℕ) → answer ≡ position (λ (q : PositionHeld). bytes_eq name q.name) body → answer ≡ Some k
    → (k ≡ position_in (map position_of body) name) × (k < length body)
some_position body name answer k is some =
    let r = present_in (λ (q : PositionHeld). q.name) body name answer k is some in
    (subst (λ ns. k ≡ place_of ns name) (sym (names_kept body)) r.0, r.1)

-- a position that has the name and the module of its part
pub same_position : (names : List (List ℕ)) (q : PositionHeld) (p : PosPart) → q.name ≡ p.name → q.module.0 ≡ place_of names p.module → position_of q ≡ placed names p
same_position names q p name place =
    ap (λ n. let r : Position = record { name = n; module_no = q.module.0 } in r) name ∙ ap (λ m. let r : Position = record { name = p.name; module_no = m } in r) place

-- the modules of positions, as they are seen
pub known_modules : (modules : List Module) (names : List (List ℕ)) (body : List PositionHeld) → names ≡ names_of modules → ((q : PositionHeld) → IsIn q body → q.module.0 < length names)
    → AreOfModules modules (map position_of body)
known_modules modules names body is all q here =
    let r = in_map_from position_of q body here in
    subst (λ (s : Position). s.module_no < length modules) (sym r.2)
    (subst (λ n. r.0.module.0 < n) (ap length is ∙ length-map modules (λ (m : Module). m.name)) (all r.0 r.1))
