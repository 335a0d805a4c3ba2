-- A line that makes its text piece by piece, each of which is due behind those before.
use Rattle.std.proofs.Common.{◌≡◌, ℕ, List, [], ◌++◌, Option, sym, ap, ◌∙◌, subst, inl, inr, append_assoc, append-nil}
use Rattle.wf_lines.specs.LineStages.{IsOneWay}
use Rattle.wf_lines.specs.BegunLines.{BegunLine, MakesAtOnce, BeginsEach}
use Rattle.wf_lines.specs.Taking.{IsDue, IsStoppedBy}
use Rattle.wf_lines.specs.declared.fault.LinesFault.{LinesFault}
use Rattle.wf_lines.specs.declared.fault.LinesFault.TheVariants.{Stopped, Halted}
use Rattle.wf_lines.proofs.Dues.{due_cut, due_put, due_later, due_more}

module _ (due far later : List ℕ) (a b : Option (List ℕ)) (is : IsDue (due ++ far) later a b) where
  -- what is due behind the pieces so far
  behind : (piece : List ℕ) → IsDue (due ++ (far ++ piece)) (later ++ piece) a b
  behind piece = subst (λ x. IsDue x (later ++ piece) a b) (append_assoc due far piece) (due_more (due ++ far) later piece a b is)

  -- one piece more is due
  pub due_further : (piece last : List ℕ) (c : Option (List ℕ)) → IsDue (later ++ piece) last b c → IsDue (due ++ (far ++ piece)) last a c
  due_further piece last c more = due_later (due ++ (far ++ piece)) (later ++ piece) last a b c (behind piece) more

  -- the line is stopped behind them
  pub stopped_further : {E F : Type 0} (Stops : E → List ℕ → Type 0) (Begins : List ℕ → Type 0) (end_of : F → Option E) (f : LinesFault F) (c : Option (List ℕ)) →
      IsStoppedBy (λ e piece. Stops e (far ++ piece)) (λ piece. Begins (far ++ piece)) end_of later f b c → IsStoppedBy Stops Begins end_of due f a c
  stopped_further Stops Begins end_of (Stopped f) c why = (far ++ why.0, why.1, why.2, due_put (due ++ (far ++ why.0)) (later ++ why.0) a b c (behind why.0) why.3)
  stopped_further Stops Begins end_of (Halted h) c why = (why.0, (far ++ why.1.0, why.1.1, due_cut (due ++ (far ++ why.1.0)) (later ++ why.1.0) a b c (behind why.1.0) why.1.2))

-- what is made at once begins what a line makes, where it is taken in one way
module _ {S E : Type 0} (IsSound : S → Type 0) (Takes : S → ℕ → List ℕ → S → List ℕ → Type 0) (Stops : S → ℕ → List ℕ → E → List ℕ → Type 0) (one : IsOneWay IsSound Takes Stops) where
  begins_taken : (p : BegunLine S) (q : S) (t : List ℕ) → IsSound p.state → MakesAtOnce Takes p → Takes p.state p.number p.text q t → (more : List ℕ) × (t ≡ p.made ++ more)
  begins_taken p q t ok (inl none) h = (t, sym (ap (λ x. x ++ t) none))
  begins_taken p q t ok (inr all) h = ([], (one.taken p.state p.number p.text q all.0 t p.made ok h all.1).1 ∙ sym (append-nil p.made))

  begins_stopped : (p : BegunLine S) (e : E) (t : List ℕ) → IsSound p.state → MakesAtOnce Takes p → Stops p.state p.number p.text e t → (more : List ℕ) × (t ≡ p.made ++ more)
  begins_stopped p e t ok (inl none) h = (t, sym (ap (λ x. x ++ t) none))
  begins_stopped p e t ok (inr all) h = absurd (one.apart p.state p.number p.text all.0 p.made e t ok all.1 h)

  pub begins_at_once : BeginsEach IsSound Takes Stops (MakesAtOnce Takes)
  begins_at_once = record { taken = begins_taken; stopped = begins_stopped }
