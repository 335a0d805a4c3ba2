-- How bytes are read that begin with the letters of a label file.
use Rattle.std.proofs.Common.{◌≡◌, ◌+◌, ◌<◌, ◌≤◌, Bool, eqb, List, ℕ, ◌++◌, length, take, drop, codes, Decides, refl, sym, ap, ◌∙◌, subst, arith, append_assoc, length-append}
use Rattle.std.specs.List.{list_any}
use Rattle.std.specs.Cmp.Lexicographic.{pointwise}
use Rattle.std.proofs.lemmas.Bool.Decides.{Decides-eqb}
use Rattle.std.proofs.lemmas.List.{take-append-drop, length-take-le}
use Rattle.std.proofs.lemmas.Slice.Eq.{slice_eq-Decides}
use Rattle.wf_model.specs.Lists.{IsIn}
use Rattle.wf_model.specs.Grammar.{Grammar}
use Rattle.wf_model.proofs.Lists.{some_from, some_gives}
use Rattle.wf_names.proofs.Found.{some_any}
use Rattle.label_model.specs.Files.{head_bytes, NotLabels, OtherSpec, Opens, short, other_digest}

-- comparing tells whether a digest is one of these
pub among_Decides : (digests : List (List ℕ)) (found : List ℕ) (b : Bool) → b ≡ list_any (λ d. pointwise eqb d found) digests → Decides b (IsIn found digests)
among_Decides digests found b e = (
  λ t. (let r = some_gives same digests (some_any same digests ∙ sym e ∙ t) in subst (λ z. IsIn z digests) ((told r.0).0 r.2) r.1),
  λ i. e ∙ sym (some_any same digests) ∙ some_from same found digests i ((told found).1 refl),
)
  where
    same : List ℕ → Bool
    same d = pointwise eqb d found

    told : (d : List ℕ) → Decides (pointwise eqb d found) (d ≡ found)
    told d = slice_eq-Decides Decides-eqb d found (pointwise eqb d found) refl

module _ (bytes behind : List ℕ) (start : bytes ≡ codes "WFL1" ++ behind) where
  -- fewer than 32 bytes stand behind the letters
  pub too_short : length behind < 32 → (g : Grammar) (digests : List (List ℕ)) → Opens g digests bytes NotLabels
  too_short few g digests = let n : length bytes ≡ length (codes "WFL1") + length behind = ap length start ∙ length-append (codes "WFL1") behind in short (omega arith)

  -- 32 bytes behind the letters are a digest
  pub head_parts : (found rest : List ℕ) → found ≡ take 32 behind → rest ≡ drop 32 behind → bytes ≡ head_bytes found ++ rest
  head_parts found rest f r =
      let parts : behind ≡ found ++ rest = sym (take-append-drop 32 behind) ∙ (ap (λ z. z ++ drop 32 behind) (sym f) ∙ ap (λ z. found ++ z) (sym r)) in
      start ∙ (ap (λ z. codes "WFL1" ++ z) parts ∙ sym (append_assoc (codes "WFL1") found rest))

  pub digest_length : (found : List ℕ) → found ≡ take 32 behind → 32 ≤ length behind → length found ≡ 32
  digest_length found f l = ap length f ∙ length-take-le 32 behind l

  -- and if it is none of these, it is that of another grammar
  pub other_found : (found rest : List ℕ) → found ≡ take 32 behind → rest ≡ drop 32 behind → 32 ≤ length behind →
      (g : Grammar) (digests : List (List ℕ)) → (IsIn found digests → ⊥) → Opens g digests bytes OtherSpec
  other_found found rest f r l g digests none = other_digest found rest (digest_length found f l) (head_parts found rest f r) none
