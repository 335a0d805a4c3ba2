-- A module is seen under a view, or not.
use Rattle.std.proofs.Common.{◌≡◌, ℕ, ◌<◌, IsTrue, List, length, map, refl, sym, ap, subst, arith}
use Rattle.std.specs.List.{filter, flat_map}
use Rattle.wf_model.specs.Lists.{IsIn, numbers_from, Walk, here, onward}
use Rattle.wf_model.specs.Grammar.{Grammar, head_of, body_of}
use Rattle.wf_model.specs.Proper.{Makes}
use Rattle.wf_model.specs.View.{View, expands, IsSeenModule, at_start, in_body}
use Rattle.wf_model.proofs.Lists.{in_map, in_map_from, in_flat_map, in_flat_map_from, in_filter, in_filter_from}
use Rattle.wf_model.proofs.Level.{in_numbers, numbers_in}
use Rattle.wf_model.proofs.Walks.{walk-append, walk_one}
use Rattle.wf_model.proofs.Deciding.{Either, either_same, number_either, walk_either}

module _ (g : Grammar) (u : View) where
  -- a module that the view expands makes another
  abbrev Opens : ℕ → ℕ → Type 0
  Opens a b = Makes g a b × IsTrue (expands u a)

  abbrev edges_by : ℕ → List (ℕ × ℕ)
  edges_by p = map (λ b. (head_of g p, b)) (body_of g p)

  abbrev opening : List ℕ
  opening = filter (λ p. expands u (head_of g p)) (numbers_from 0 (length g.productions))

  edge_opens : (a b : ℕ) → IsIn (a, b) (flat_map edges_by opening) → Opens a b
  edge_opens a b h =
      let r = in_flat_map_from edges_by (a, b) opening h in
      let f = in_filter_from (λ p. expands u (head_of g p)) r.0 (numbers_from 0 (length g.productions)) r.1 in
      let l : r.0 < length g.productions = let z = in_numbers r.0 0 (length g.productions) f.0 in omega arith in
      let q = in_map_from (λ c. (head_of g r.0, c)) (a, b) (body_of g r.0) r.2 in
      let head : head_of g r.0 ≡ a = sym (ap (λ (x : ℕ × ℕ). x.0) q.2) in
      ((r.0, (l, head), subst (λ c. IsIn c (body_of g r.0)) (sym (ap (λ (x : ℕ × ℕ). x.1) q.2)) q.1), subst (λ c. IsTrue (expands u c)) head f.1)

  opens_edge : (a b : ℕ) → Opens a b → IsIn (a, b) (flat_map edges_by opening)
  opens_edge a b h =
      let l = h.0.1.0 in
      in_flat_map edges_by h.0.0 (a, b) opening
      (in_filter (λ p. expands u (head_of g p)) h.0.0 (numbers_from 0 (length g.productions)) (numbers_in h.0.0 0 (length g.productions) (omega arith) (omega arith)) (subst (λ c. IsTrue (expands u c)) (sym h.0.1.1) h.1))
      (subst (λ c. IsIn (c, b) (edges_by h.0.0)) h.0.1.1 (in_map (λ c. (head_of g h.0.0, c)) b (body_of g h.0.0) h.0.2))

  seen_walk : {m : ℕ} → IsSeenModule g u m → Walk Opens g.start m
  seen_walk (at_start e) = subst (λ z. Walk Opens g.start z) (sym e) here
  seen_walk {m} (in_body p l s e i) = walk-append (seen_walk s) (walk_one ((p, (l, refl), i), e))

  walk_seen : {a b : ℕ} → Walk Opens a b → IsSeenModule g u a → IsSeenModule g u b
  walk_seen here s = s
  walk_seen (onward h w) s = walk_seen w (in_body h.0.0 h.0.1.0 (subst (IsSeenModule g u) (sym h.0.1.1) s) (subst (λ c. IsTrue (expands u c)) (sym h.0.1.1) h.1) h.0.2)

  pub seen_either : (m : ℕ) → Either (IsSeenModule g u m)
  seen_either m = either_same (λ w. walk_seen w (at_start refl)) seen_walk (walk_either number_either Opens (flat_map edges_by opening) edge_opens opens_edge g.start m)
