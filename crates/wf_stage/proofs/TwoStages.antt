-- Stages over one file that differ in what follows, and stages over a file that tells a value.
use Rattle.std.proofs.Common.{◌≡◌, ℕ, ◌<◌, ◌≤◌, false, List, length, Option, sym, ap, ◌∙◌, subst, arith, true≢false}
use Rattle.wf_io.specs.Told.{File}
use Rattle.wf_message.specs.Endings.{End, Refused}
use Rattle.wf_stage.specs.Kinds.{Kind}
use Rattle.wf_stage.specs.Stages.{Stage, too_long, broken, refused, goes_on}

-- what is too long is not short
pub past_most : {m n : ℕ} → m < n → n ≤ m → ⊥
past_most l s = absurd (omega arith)

module _ {A : Type 0} (kind : Kind) (first : List ℕ) (file : File) (Tells : List ℕ → A → Type 0) (Refuses : List ℕ → Option ℕ → List ℕ → Type 0) (Next Other : A → End → List ℕ → Type 0)
    (one : (a b : A) → Tells file.bytes a → Tells file.bytes b → b ≡ a)
    (one_fault : (l m : Option ℕ) (x y : List ℕ) → Refuses file.bytes l x → Refuses file.bytes m y → (l ≡ m) × (x ≡ y))
    (apart : (a : A) (l : Option ℕ) (x : List ℕ) → Tells file.bytes a → Refuses file.bytes l x → ⊥)
    (alike : (a : A) → Tells file.bytes a → (d e : End) (t s : List ℕ) → Next a d t → Other a e s → (d ≡ e) × (t ≡ s)) where
  -- two stages over one file have one outcome where what follows has
  pub same_outcome : (d e : End) (t s : List ℕ) → Stage kind first file Tells Refuses Next d t → Stage kind first file Tells Refuses Other e s → (d ≡ e) × (t ≡ s)
  same_outcome d e t s (too_long l x y) (too_long m u v) = (x ∙ sym u, y ∙ sym v)
  same_outcome d e t s (too_long l x y) (broken m b u v) = absurd (past_most l m)
  same_outcome d e t s (too_long l x y) (refused m b n f h u v) = absurd (past_most l m)
  same_outcome d e t s (too_long l x y) (goes_on m b c h n) = absurd (past_most l m)
  same_outcome d e t s (broken l a x y) (too_long m u v) = absurd (past_most m l)
  same_outcome d e t s (broken l a x y) (broken m b u v) = (x ∙ sym u, y ∙ sym v)
  same_outcome d e t s (broken l a x y) (refused m b n f h u v) = absurd (true≢false (sym a ∙ b))
  same_outcome d e t s (broken l a x y) (goes_on m b c h n) = absurd (true≢false (sym a ∙ b))
  same_outcome d e t s (refused l a n f k x y) (too_long m u v) = absurd (past_most m l)
  same_outcome d e t s (refused l a n f k x y) (broken m b u v) = absurd (true≢false (sym b ∙ a))
  same_outcome d e t s (refused l a n f k x y) (refused m b o g h u v) = let r = one_fault n o f g k h in (x ∙ (ap (λ z. Refused kind.word z f) r.0 ∙ (ap (Refused kind.word o) r.1 ∙ sym u)), y ∙ sym v)
  same_outcome d e t s (refused l a n f k x y) (goes_on m b c h o) = absurd (apart c n f h k)
  same_outcome d e t s (goes_on l a z k n) (too_long m u v) = absurd (past_most m l)
  same_outcome d e t s (goes_on l a z k n) (broken m b u v) = absurd (true≢false (sym b ∙ a))
  same_outcome d e t s (goes_on l a z k n) (refused m b o f h u v) = absurd (apart z o f k h)
  same_outcome d e t s (goes_on l a z k n) (goes_on m b c h o) = alike z k d e t s n (subst (λ x. Other x e s) (one z c k h) o)

module _ {A : Type 0} (kind : Kind) (first : List ℕ) (file : File) (Tells : List ℕ → A → Type 0) (Refuses : List ℕ → Option ℕ → List ℕ → Type 0) (Next : A → End → List ℕ → Type 0)
    (a : A) (short : length file.bytes ≤ kind.most) (whole : file.broken ≡ false)
    (only : (b : A) → Tells file.bytes b → b ≡ a)
    (taken : (l : Option ℕ) (x : List ℕ) → Refuses file.bytes l x → ⊥) where
  -- a stage over a whole file that tells one value goes on with it
  pub stage_goes_on : (d : End) (t : List ℕ) → Stage kind first file Tells Refuses Next d t → Next a d t
  stage_goes_on d t (too_long l x y) = absurd (past_most l short)
  stage_goes_on d t (broken l b x y) = absurd (true≢false (sym b ∙ whole))
  stage_goes_on d t (refused l b n f r x y) = absurd (taken n f r)
  stage_goes_on d t (goes_on l b c h n) = subst (λ z. Next z d t) (only c h) n
