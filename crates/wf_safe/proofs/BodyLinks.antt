-- The links of a body, one after another.
use Rattle.std.proofs.Common.{◌≡◌, ℕ, suc, ◌+◌, ◌-◌, ◌<◌, cond, List, [], ◌∷◌, ◌++◌, flat_map, map, drop, length, get_or, Option, Some, None, refl, sym, ap, ◌∙◌, subst, arith}
use Rattle.std.specs.Prelude.{◌==◌}
use Rattle.std.specs.Int.{bit_at}
use Rattle.std.proofs.lemmas.List.{drop_more}
use Rattle.wf_model.specs.declared.body.Edge.{Edge as EdgeHeld}
use Rattle.wf_model.specs.declared.body.Inner.{Inner as InnerHeld}
use Rattle.wf_model.specs.declared.body.Position.{Position as PositionHeld}
use Rattle.wf_model.specs.Lists.{IsAt, numbers_from}
use Rattle.wf_model.specs.Grammar.{Grammar, Assignment, Position, Production, production_at, body_of, inputs_of, outputs_of}
use Rattle.wf_model.specs.Links.{input, output, edge_link, entry_links, exit_links, pair_links, place_links}
use Rattle.wf_model.specs.Meaning.{edge_of, inner_of, position_of, bit_of, pairs_of}
use Rattle.bool_mat.specs.Matrix.{has}
use Rattle.wf_body.proofs.Rowing.{module_stands}
use Rattle.wf_safe.specs.BodyGraph.{pair_link, row_links, matrix_links}

next_is : (k : ℕ) → suc k ≡ k + 1
next_is k = omega arith

numbers_step : (k n : ℕ) → k < n → numbers_from k (n - k) ≡ k ∷ numbers_from (k + 1) (n - (k + 1))
numbers_step k n h =
    let e : n - k ≡ suc (n - (k + 1)) = omega arith in
    ap (numbers_from k) e ∙ ap (λ j. k ∷ numbers_from j (n - (k + 1))) (next_is k)

pub edges_step : (es : List EdgeHeld) (k : ℕ) (d : EdgeHeld) → k < length es → map edge_link (map edge_of (drop k es)) ≡ (edge_link (edge_of (get_or es k d)) ∷ []) ++ map edge_link (map edge_of (drop (k + 1) es))
edges_step es k d h = ap (λ l. map edge_link (map edge_of l)) (drop_more es k d h)

pub entries_step : (is : List InnerHeld) (k : ℕ) (d : InnerHeld) → k < length is →
    entry_links k (map inner_of (drop k is)) ≡ (record { from = input None k; to = input (Some (get_or is k d).pos.0) (get_or is k d).port.0 } ∷ []) ++ entry_links (k + 1) (map inner_of (drop (k + 1) is))
entries_step is k d h =
    ap (λ l. entry_links k (map inner_of l)) (drop_more is k d h)
    ∙ ap (λ j. record { from = input None k; to = input (Some (get_or is k d).pos.0) (get_or is k d).port.0 } ∷ entry_links j (map inner_of (drop (k + 1) is))) (next_is k)

pub exits_step : (is : List InnerHeld) (k : ℕ) (d : InnerHeld) → k < length is →
    exit_links k (map inner_of (drop k is)) ≡ (record { from = output (Some (get_or is k d).pos.0) (get_or is k d).port.0; to = output None k } ∷ []) ++ exit_links (k + 1) (map inner_of (drop (k + 1) is))
exits_step is k d h =
    ap (λ l. exit_links k (map inner_of l)) (drop_more is k d h)
    ∙ ap (λ j. record { from = output (Some (get_or is k d).pos.0) (get_or is k d).port.0; to = output None k } ∷ exit_links j (map inner_of (drop (k + 1) is))) (next_is k)

pub row_step : (k i row o n : ℕ) → o < n → row_links k i row o (n - o) ≡ cond (bit_at row o == 1) (pair_link k i o ∷ []) [] ++ row_links k i row (o + 1) (n - (o + 1))
row_step k i row o n h = ap (flat_map (λ j. cond (bit_at row j == 1) (pair_link k i j ∷ []) [])) (numbers_step o n h)

pub matrix_step : (k : ℕ) (rows : List ℕ) (outputs i n : ℕ) → i < n → matrix_links k rows outputs i (n - i) ≡ row_links k i (get_or rows i 0) 0 outputs ++ matrix_links k rows outputs (i + 1) (n - (i + 1))
matrix_step k rows outputs i n h = ap (flat_map (λ j. row_links k j (get_or rows j 0) 0 outputs)) (numbers_step i n h)

pub places_step : (g : Grammar) (d : Assignment) (ps : List PositionHeld) (k : ℕ) (q : PositionHeld) → k < length ps →
    place_links g d k (map (λ (z : Position). z.module_no) (map position_of (drop k ps)))
    ≡ pair_links g d (get_or ps k q).«module».0 (Some k) ++ place_links g d (k + 1) (map (λ (z : Position). z.module_no) (map position_of (drop (k + 1) ps)))
places_step g d ps k q h =
    ap (λ l. place_links g d k (map (λ (z : Position). z.module_no) (map position_of l))) (drop_more ps k q h)
    ∙ ap (λ j. pair_links g d (get_or ps k q).«module».0 (Some k) ++ place_links g d j (map (λ (z : Position). z.module_no) (map position_of (drop (k + 1) ps)))) (next_is k)

-- a column of a row
pub has_is : (row j : ℕ) → has row j ≡ (bit_at row j == 1)
unfolding has
has_is row j = refl

-- the pairs of a module are those of its rows
pub pairs_are : (g : Grammar) (deps : List (Option (List ℕ))) (m k outputs : ℕ) (rows : List ℕ) → get_or deps m None ≡ Some rows → length rows ≡ inputs_of g m → outputs ≡ outputs_of g m → matrix_links k rows outputs 0 (length rows) ≡ pair_links g (pairs_of deps) m (Some k)
pairs_are g deps m k outputs rows e i o =
    ap (λ n. matrix_links k rows outputs 0 n) i
    ∙ (ap (λ n. matrix_links k rows n 0 (inputs_of g m)) o
    ∙ ap (λ r. flat_map (λ a. flat_map (λ b. cond (bit_of r a b) (pair_link k a b ∷ []) []) (numbers_from 0 (outputs_of g m))) (numbers_from 0 (inputs_of g m))) (sym e))

-- the module of a held position, and the modules of all
pub read_stands : (g : Grammar) (p k : ℕ) (ps : List PositionHeld) (r : Production) (q : PositionHeld) → map position_of ps ≡ r.positions → r ≡ production_at g p → k < length ps → q ≡ get_or ps k q → IsAt q.«module».0 k (body_of g p)
read_stands g p k ps r q same core h is = subst (λ (z : PositionHeld). IsAt z.«module».0 k (body_of g p)) (sym is) (module_stands g p ps r k q same core h)

pub body_is : (g : Grammar) (p : ℕ) (ps : List PositionHeld) (r : Production) → map position_of ps ≡ r.positions → r ≡ production_at g p → map (λ (z : Position). z.module_no) (map position_of ps) ≡ body_of g p
body_is g p ps r same core = ap (map (λ (z : Position). z.module_no)) same ∙ ap (λ (z : Production). map (λ (q : Position). q.module_no) z.positions) core
