-- A reader of lines as it is opened.
use Rattle.std.proofs.Common.{◌≡◌, ℕ, true, false, List, [], Option, refl, sym, subst, inl}
use Rattle.wf_io.specs.Readings.{Reading}
use Rattle.wf_io.specs.Readers.{Reader, IsReading}

-- it is live, and has read nothing
pub opened_lines : (name : List ℕ) (r : Reader) → r ≡ record { name = name; place = 0; kept = []; number = 1; line = 0; held = []; live = true; wants = false; ended = false } → (now : Option (List Reading)) → (r.live ≡ true) × IsReading r now
opened_lines name r is now = subst (λ (z : Reader). (z.live ≡ true) × IsReading z now) (sym is) (refl, (now, inl (refl, refl)))
