-- A body joins the same ports by two assignments that agree on the modules of its positions.
use Rattle.std.proofs.Common.{◌≡◌, ℕ, suc, ◌<◌, List, [], ◌∷◌, ◌++◌, Some, None, refl, ap, ◌∙◌, subst, inl, inr}
use Rattle.wf_model.specs.Lists.{IsIn}
use Rattle.wf_model.specs.Grammar.{Grammar, Assignment, inputs_of, outputs_of, body_of}
use Rattle.wf_model.specs.Links.{Link, input, output, wiring, pair_links, place_links, Path}
use Rattle.wf_model.specs.Safe.{BodyJoins}
use Rattle.wf_model.proofs.SameLinks.{pair_links_same}
use Rattle.std.specs.Prelude.{Option}

-- two assignments have the same pairs of the modules of a list
abbrev pub SameOn : Grammar → Assignment → Assignment → List ℕ → Type 0
SameOn g d e ms = (m : ℕ) → IsIn m ms → (i o : ℕ) → i < inputs_of g m → o < outputs_of g m → d m i o ≡ e m i o

pub place_links_same : (g : Grammar) (d e : Assignment) (k : ℕ) (ms : List ℕ) → SameOn g d e ms → place_links g d k ms ≡ place_links g e k ms
place_links_same g d e k [] same = refl
place_links_same g d e k (m ∷ ms) same =
    ap (λ (l : List (Link (Option ℕ))). l ++ place_links g d (suc k) ms) (pair_links_same g d e m (Some k) (same m (inl refl))) ∙
    ap (λ (l : List (Link (Option ℕ))). pair_links g e m (Some k) ++ l) (place_links_same g d e (suc k) ms (λ n i. same n (inr i)))

pub body_joins_same : (g : Grammar) (d e : Assignment) (p i o : ℕ) → SameOn g d e (body_of g p) → BodyJoins g d p i o → BodyJoins g e p i o
body_joins_same g d e p i o same w =
    subst (λ (l : List (Link (Option ℕ))). Path l (input None i) (output None o)) (ap (λ (l : List (Link (Option ℕ))). wiring g p ++ l) (place_links_same g d e 0 (body_of g p) same)) w
