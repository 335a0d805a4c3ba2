-- Those of a list that pass a test, gone through from a mark on.
use Rattle.std.proofs.Common.{◌≡◌, ℕ, ◌+◌, ◌<◌, ◌≤◌, Bool, true, false, cond, List, [], ◌∷◌, drop, length, get_or, ap, ◌∙◌}
use Rattle.std.specs.Prelude.{filter}
use Rattle.std.proofs.lemmas.List.{drop_more, drop_all}

module _ (t : ℕ → Bool) (row : List ℕ) (mark at : ℕ) (so_far : filter t (drop mark row) ≡ filter t (drop at row)) where
  next : at < length row → filter t (drop mark row) ≡ cond (t (get_or row at 0)) (get_or row at 0 ∷ filter t (drop (at + 1) row)) (filter t (drop (at + 1) row))
  next h = so_far ∙ ap (filter t) (drop_more row at 0 h)

  pub passed : at < length row → t (get_or row at 0) ≡ false → filter t (drop mark row) ≡ filter t (drop (at + 1) row)
  passed h e = next h ∙ ap (λ b. cond b (get_or row at 0 ∷ filter t (drop (at + 1) row)) (filter t (drop (at + 1) row))) e

  pub found : at < length row → t (get_or row at 0) ≡ true → filter t (drop mark row) ≡ get_or row at 0 ∷ filter t (drop (at + 1) row)
  found h e = next h ∙ ap (λ b. cond b (get_or row at 0 ∷ filter t (drop (at + 1) row)) (filter t (drop (at + 1) row))) e

  pub ended : length row ≤ at → filter t (drop mark row) ≡ []
  ended h = so_far ∙ ap (filter t) (drop_all at row h)
