-- The walk that writes: the list that all findings make, stored from the front, is the list that the rest makes, stored from here.
-- Assumes nothing.
use Rattle.std.specs.Prelude.{None}
use mathlib.Core.Path.{◌≡◌, refl, sym, ◌∙◌}
use mathlib.Core.List.{List}
use Prim.Native.Nat.{ℕ, ◌+◌, ◌/◌, ◌≤◌}
use native.Mathlib.Omega.{arith}
use lib.ListN.{length, drop}
use lib.Seq.{sets}
use Rattle.list_findings.specs.declared.Finding.{Finding}
use Rattle.list_findings.specs.Findings.{width, records, flat, filled, stored}
use Rattle.list_findings.specs.Merge.{merged, first_fault}
use Rattle.list_findings.proofs.Records.{length_flat}
use Rattle.list_findings.proofs.Filling.{filled_sets, one_stored, length_stored}
use Rattle.list_steps.specs.declared.Stepped.{Stepped}
use Rattle.list_steps.specs.declared.Stepped.TheVariants.{Over, Fault, Leave, Keep}
use Rattle.list_steps.specs.Step.{merge_step}
use Rattle.list_steps.proofs.Walk.{said}

pub record Writes (a b old out : List ℕ) (i j k : ℕ) : Type 0 where
  pub writes : sets old 0 (flat (merged (records a) (records b))) ≡ sets out k (flat (merged (records (drop i a)) (records (drop j b))))
  pub faultless : first_fault (records (drop i a)) (records (drop j b)) ≡ None
  pub fits : k + length (flat (merged (records (drop i a)) (records (drop j b)))) ≤ length out
  pub long : length out ≡ length old
  pub within : i ≤ length a
  pub within' : j ≤ length b

pub writes_start : (a b out : List ℕ) → first_fault (records a) (records b) ≡ None → length (merged (records a) (records b)) ≤ length out / width → Writes a b out out 0 0 0
writes_start a b out f h =
    record { writes = refl; faultless = f; fits = omega (arith, length_flat (merged (records a) (records b))); long = refl; within = omega arith; within' = omega arith }

module _ (a b old out : List ℕ) (i j k : ℕ) (l : Writes a b old out i j k) (s : Stepped) (e : s ≡ merge_step (records (drop i a)) i (records (drop j b)) j) where
  pub write_over : s ≡ Over → length (merged (records a) (records b)) ≤ length old / width → out ≡ filled (merged (records a) (records b)) old
  unfolding flat
  write_over f h =
      let q = said a i b j l.within l.within' s e Over f in
      sym (sym (filled_sets (merged (records a) (records b)) old h) ∙ l.writes ∙ rw q.0)

  pub write_fault : (at : ℕ) → s ≡ Fault at → out ≡ filled (merged (records a) (records b)) old
  write_fault at f =
      absurd (let q = said a i b j l.within l.within' s e (Fault at) f in let r = l.faultless in let z : ◌≡◌ {A = ℕ} 0 1 = cc in omega arith)

  module _ (x y : ℕ) where
    pub write_leave : s ≡ Leave x y → Writes a b old out x y k
    write_leave f =
        let q = said a i b j l.within l.within' s e (Leave x y) f in
        record {
          writes = l.writes ∙ rw q.keeps;
          faultless = sym q.faults ∙ l.faultless;
          fits = rw q.keeps at l.fits;
          long = l.long;
          within = q.moves.within;
          within' = q.moves.within';
        }

    module _ (r : Finding) (f : s ≡ Keep r x y) where
      pub keep_room : k + width ≤ length out
      unfolding flat
      keep_room = let g = rw (said a i b j l.within l.within' s e (Keep r x y) f).keeps at l.fits in omega arith

      pub write_keep : (new : List ℕ) → new ≡ stored out k r → Writes a b old new x y (k + width)
      unfolding flat
      write_keep new p =
          let q = said a i b j l.within l.within' s e (Keep r x y) f in
          let g = rw q.keeps at l.fits in
          let n : length new ≡ length out = rw p (length_stored out k r) in
          record {
            writes = l.writes ∙ rw (q.keeps, p) (one_stored out k r (merged (records (drop x a)) (records (drop y b))));
            faultless = sym q.faults ∙ l.faultless;
            fits = omega arith;
            long = n ∙ l.long;
            within = q.moves.within;
            within' = q.moves.within';
          }
