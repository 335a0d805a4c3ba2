-- A production of a package, by its parts.
use Rattle.std.proofs.Common.{◌≡◌, ℕ, List, [], ◌∷◌, map, refl, ap, ◌∙◌}
use Rattle.wf_model.specs.Grammar.{Grammar, Position, Inner, Edge, Production, production_at, head_of, body_of}
use Rattle.wf_model.specs.Meaning.{position_of}
use Rattle.wf_model.specs.declared.body.Position.{Position as PositionHeld}
use Rattle.package_model.specs.Packages.{package_positions}
use Rattle.wf_package.specs.Parts.{production_part}

-- the places of the modules of positions, as they are held
pub places_held : (place : ℕ → ℕ) (held : List PositionHeld) (xs : List Position) → map position_of held ≡ xs → map (λ (q : PositionHeld). place q.module.0) held ≡ map place (map (λ (q : Position). q.module_no) xs)
places_held place held xs seen = by held ∙ ap (λ (l : List Position). map place (map (λ (q : Position). q.module_no) l)) seen
  where
    by : (qs : List PositionHeld) → map (λ (q : PositionHeld). place q.module.0) qs ≡ map place (map (λ (q : Position). q.module_no) (map position_of qs))
    by [] = refl
    by (q ∷ qs) = ap (λ l. place q.module.0 ∷ l) (by qs)

-- a production with these parts
pub production_is : (g : Grammar) (place : ℕ → ℕ) (p : ℕ) (r : Production) → r.head ≡ place (head_of g p) → r.positions ≡ package_positions 0 (map place (body_of g p)) → r.edges ≡ (production_at g p).edges
    → r.entries ≡ (production_at g p).entries → r.exits ≡ (production_at g p).exits → r ≡ production_part g place p
production_is g place p r headed placed edged entered left =
    let q = production_part g place p in
    ap (λ h. record { head = h; positions = r.positions; edges = r.edges; entries = r.entries; exits = r.exits }) headed
    ∙ ap (λ (ps : List Position). record { head = q.head; positions = ps; edges = r.edges; entries = r.entries; exits = r.exits }) placed
    ∙ ap (λ (es : List Edge). record { head = q.head; positions = q.positions; edges = es; entries = r.entries; exits = r.exits }) edged
    ∙ ap (λ (es : List Inner). record { head = q.head; positions = q.positions; edges = q.edges; entries = es; exits = r.exits }) entered
    ∙ ap (λ (es : List Inner). record { head = q.head; positions = q.positions; edges = q.edges; entries = q.entries; exits = es }) left
