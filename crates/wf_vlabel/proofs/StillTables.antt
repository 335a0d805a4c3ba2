-- Tables of the first squares that are their own squares, in the making.
use Rattle.std.proofs.Common.{◌≡◌, ℕ, ◌+◌, ◌<◌, List, [], ◌∷◌, ◌++◌, length, get_or, None, refl, sym, ap, ◌∙◌, subst, inl, inr, arith, length-append}
use Rattle.std.proofs.lemmas.Bool.{cases_eq, cases_lt}
use Rattle.std.proofs.lemmas.List.{get_or_append_left, get_or_past}
use Rattle.std.proofs.lemmas.Option.{none-some}
use Rattle.std.proofs.Math.Seq.{get_or-append_seam}
use Rattle.wf_vlabel.specs.declared.rounds.stills.Stills.{Stills}
use Rattle.wf_vlabel.specs.Groups.{GroupsSeen, HasGroup}
use Rattle.wf_vlabel.specs.Stills.{AreStillsAt, AreStills}

abbrev none : Stills
none = record { down = 0; up = 0 }

-- the numbers of the modules below n are told
pub record AreStillsBelow (t : GroupsSeen) (n : ℕ) (stills : List Stills) : Type 0 where
  pub one_each : length stills ≡ n
  pub each : (m : ℕ) → m < n → HasGroup t m 48 → AreStillsAt t m (get_or stills m none)

pub stills_none : (t : GroupsSeen) → AreStillsBelow t 0 []
stills_none t = record { one_each = refl; each = λ m l h. absurd (omega arith) }

-- one module more
pub stills_more : (t : GroupsSeen) (n : ℕ) (stills longer : List Stills) (s : Stills) → AreStillsBelow t n stills → (HasGroup t n 48 → AreStillsAt t n s) → longer ≡ stills ++ s ∷ [] → AreStillsBelow t (n + 1) longer
stills_more t n stills longer s h last e =
    let l = h.one_each in
    let a = length-append stills (s ∷ []) in
    subst (AreStillsBelow t (n + 1)) (sym e) (record {
      one_each = omega arith;
      each = λ m b g. elim (cases_eq m n) [
        | inl is ↦ subst (AreStillsAt t m) (sym (ap (λ k. get_or (stills ++ s ∷ []) k none) (is ∙ sym l) ∙ get_or-append_seam stills s [] none)) (subst (λ k. AreStillsAt t k s) (sym is) (last (subst (λ k. HasGroup t k 48) is g)))
        | inr not ↦ let there : m < n = omega arith in
            let inside : m < length stills = omega arith in
            subst (AreStillsAt t m) (sym (get_or_append_left stills (s ∷ []) none m inside)) (h.each m there g)
      ];
    })

-- a module that has squares is among the keys
key_below : (t : GroupsSeen) (m : ℕ) → HasGroup t m 48 → m < length t.first
key_below t m h = elim (cases_lt m (length t.first)) [
  | inl l ↦ l
  | inr l ↦ absurd (none-some h.number (sym (get_or_past t.first m None l) ∙ h.has))
]

-- so the table tells those of all modules
pub stills_all : (t : GroupsSeen) (n : ℕ) (stills : List Stills) → n ≡ length t.first → AreStillsBelow t n stills → AreStills t stills
stills_all t n stills e h = record { one_each = h.one_each ∙ e; each = λ m g. let l = key_below t m g in h.each m (omega arith) g }
