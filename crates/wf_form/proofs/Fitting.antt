-- What well-formed parts give to each production.
use Rattle.std.proofs.Common.{◌≡◌, ℕ, ◌<◌, List, map, length, get_or, ap, ◌∙◌, subst}
use Rattle.std.proofs.lemmas.List.{length-map, get_or_default}
use Rattle.wf_model.specs.declared.body.Position.{Position as PositionHeld}
use Rattle.wf_model.specs.declared.parts.PosPart.{PosPart}
use Rattle.wf_model.specs.Meaning.{position_of}
use Rattle.wf_model.specs.declared.parts.ProdPart.{ProdPart}
use Rattle.wf_model.specs.Grammar.{Module, Position, Production}
use Rattle.wf_spec.specs.Naming.{place_of, names_of, module_in}
use Rattle.wf_form.specs.Forming.{placed, body_in, head_in, edge_in, entry_in, exit_in, production_in}

same_production : (p q : Production) → p.head ≡ q.head → p.positions ≡ q.positions → p.edges ≡ q.edges → p.entries ≡ q.entries → p.exits ≡ q.exits → p ≡ q
same_production p q head positions edges entries exits =
    ap (λ x. let r : Production = record p { head = x } in r) head
    ∙ ap (λ x. let r : Production = record p { head = q.head; positions = x } in r) positions
    ∙ ap (λ x. let r : Production = record p { head = q.head; positions = q.positions; edges = x } in r) edges
    ∙ ap (λ x. let r : Production = record { head = q.head; positions = q.positions; edges = q.edges; entries = x; exits = p.exits } in r) entries
    ∙ ap (λ x. let r : Production = record { head = q.head; positions = q.positions; edges = q.edges; entries = q.entries; exits = x } in r) exits

-- a production that is made part by part
pub made_production : (modules : List Module) (part : ProdPart) (p : Production) (body : List Position) (head : Module) → body ≡ body_in modules part → head ≡ head_in modules part
    → p.head ≡ place_of (names_of modules) part.head → p.positions ≡ body → p.edges ≡ map (edge_in modules body) part.edges
    → p.entries ≡ map (entry_in modules body part.entries) head.inputs → p.exits ≡ map (exit_in modules body part.exits) head.outputs → p ≡ production_in modules part
made_production modules part p body head is at number positions edges entries exits =
    same_production p (production_in modules part) number (positions ∙ is)
    (edges ∙ ap (λ b. map (edge_in modules b) part.edges) is)
    (entries ∙ ap (λ b. map (entry_in modules b part.entries) head.inputs) is ∙ ap (λ (m : Module). map (entry_in modules (body_in modules part) part.entries) m.inputs) at)
    (exits ∙ ap (λ b. map (exit_in modules b part.exits) head.outputs) is ∙ ap (λ (m : Module). map (exit_in modules (body_in modules part) part.exits) m.outputs) at)

-- the positions of a body, as they are made
pub made_body : (modules : List Module) (names : List (List ℕ)) (part : ProdPart) (parts : List PosPart) (body made : List PositionHeld) → names ≡ names_of modules → parts ≡ part.body
    → map position_of made ≡ map (placed names) parts → body ≡ made → map position_of body ≡ body_in modules part
made_body modules names part parts body made numbered is same kept =
    ap (map position_of) kept ∙ same ∙ ap (λ (ns : List (List ℕ)). map (placed ns) parts) numbered ∙ ap (map (placed (names_of modules))) is

-- the head of a production, as it is read
pub read_head : (modules : List Module) (names : List (List ℕ)) (part : ProdPart) (name : List ℕ) (k : ℕ) (m : Module) → names ≡ names_of modules → name ≡ part.head
    → k ≡ place_of names name → k < length names → m ≡ get_or modules k m → (m ≡ head_in modules part) × (k ≡ place_of (names_of modules) part.head)
read_head modules names part name k m numbered is place inside was =
    (was ∙ get_or_default modules k m _ below ∙ ap (module_in modules) at, at)
  where
    at : k ≡ place_of (names_of modules) part.head
    at = place ∙ ap (place_of names) is ∙ ap (λ ns. place_of ns part.head) numbered

    below : k < length modules
    below = subst (λ n. k < n) (ap length numbered ∙ length-map modules (λ (r : Module). r.name)) inside
