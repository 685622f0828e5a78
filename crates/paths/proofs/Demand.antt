-- THE THEOREM: what demand 3 says of rows holds of every header and every sequence of records.
use mathlib.Core.Path.{◌≡◌, refl, sym, ap, ap₂, ◌∙◌, subst}
use mathlib.Core.Bool.{Bool, true}
use mathlib.Core.List.{List}
use mathlib.Core.Logic.{◌≢◌, ◌↔◌, inl, inr}
use mathlib.Core.Option.{some}
use Prim.Native.Nat.{ℕ, suc, ◌≤◌, ◌<◌}
use native.Mathlib.Omega.{arith}
use lib.ListN.{length}
use Rattle.slices.proofs.TestLaws.{clash}
use Rattle.paths.specs.declared.PathToken.{PathToken}
use Rattle.paths.specs.Record.{Rec, star, plain, tokens}
use Rattle.paths.specs.Row.{spine_at, part_at}
use Rattle.paths.specs.declared.Spine.{Spine}
use Rattle.paths.specs.declared.Spine.TheVariants.{Line}
use Rattle.paths.specs.Voices.{Outcome, next, mixed, voiceless, wide}
use Rattle.paths.specs.Trace.{from, branch_of, origin_in, columns, part, lines, precedes, FirstWithout, Unmixed, FirstMixed}
use Rattle.paths.specs.Text.{header_row, Reading, reached, ended, refused, reading, read_to}
use Rattle.paths.specs.Demand.{At, Fits, Demand}
use Rattle.paths.proofs.StepLaws.{StepIs, Takes, Refuses, RecordIs}
use Rattle.paths.proofs.TextLaws.{header_voice, Held, row_held, record_read}
use Rattle.paths.proofs.MixLaws.{first_mixed, else_unmixed, first_refused, taken_unmixed, ends_in, leftmost_ends}
use Rattle.paths.proofs.Claims.{sound_voiced, sound_below, sound_differ, lacks_first, lacks_over, given_four, given_size, given_keeps, given_lowest}

-- ---- which outcome a reading is

is_voiceless : (ts : List PathToken) (row : List Spine) (o : Outcome) (q : ℕ) → reading o ≡ refused 8 q → StepIs ts row o → StepIs ts row (voiceless q)
is_voiceless ts row (next r) q e s = clash cc
is_voiceless ts row (mixed c) q e s = absurd (let z : ◌≡◌ {A = ℕ} 17 8 = cc in omega arith)
is_voiceless ts row (voiceless p) q e s = let y : p ≡ q = cc in subst (λ (k : ℕ). StepIs ts row (voiceless k)) y s
is_voiceless ts row (wide m) q e s = absurd (let z : ◌≡◌ {A = ℕ} 9 8 = cc in omega arith)

is_wide : (ts : List PathToken) (row : List Spine) (o : Outcome) (f : ℕ) → reading o ≡ refused 9 f → StepIs ts row o → StepIs ts row (wide f)
is_wide ts row (next r) f e s = clash cc
is_wide ts row (mixed c) f e s = absurd (let z : ◌≡◌ {A = ℕ} 17 9 = cc in omega arith)
is_wide ts row (voiceless p) f e s = absurd (let z : ◌≡◌ {A = ℕ} 8 9 = cc in omega arith)
is_wide ts row (wide m) f e s = let y : m ≡ f = cc in subst (λ (k : ℕ). StepIs ts row (wide k)) y s

is_mixed : (ts : List PathToken) (row : List Spine) (o : Outcome) (f : ℕ) → reading o ≡ refused 17 f → StepIs ts row o → StepIs ts row (mixed f)
is_mixed ts row (next r) f e s = clash cc
is_mixed ts row (mixed c) f e s = let y : c ≡ f = cc in subst (λ (k : ℕ). StepIs ts row (mixed k)) y s
is_mixed ts row (voiceless p) f e s = absurd (let z : ◌≡◌ {A = ℕ} 8 17 = cc in omega arith)
is_mixed ts row (wide m) f e s = absurd (let z : ◌≡◌ {A = ℕ} 9 17 = cc in omega arith)

not_6 : (o : Outcome) (f : ℕ) → reading o ≢ refused 6 f
not_6 (next r) f e = clash cc
not_6 (mixed c) f e = let z : ◌≡◌ {A = ℕ} 17 6 = cc in omega arith
not_6 (voiceless p) f e = let z : ◌≡◌ {A = ℕ} 8 6 = cc in omega arith
not_6 (wide m) f e = let z : ◌≡◌ {A = ℕ} 9 6 = cc in omega arith

star_is : (s t : List PathToken) → star s ≡ star t → s ≡ t
star_is s t e = cc

module _ (h : List Bool) (recs : ℕ → Rec) (n : ℕ) (row : List Spine) (e : At h recs n row) where
  is_held : Held h recs n row
  is_held = row_held h recs n row e

  -- ---- the record is passed

  passed : (r : List Spine) → At h recs (suc n) r → (1 ≤ length row) × (tokens (recs n) ≡ length row) × Takes (recs n) row r
  passed r f = subst (RecordIs (recs n) row) f (record_read h recs n row e)

  line_keeps : (r : List Spine) → At h recs (suc n) r → (i j : ℕ) → origin_in (recs n) j ≡ from i → spine_at r j ≡ spine_at row i
  unfolding origin_in
  line_keeps r f i j o = go (recs n) refl (passed r f).1 (passed r f).2
    where
      go : (x : Rec) → recs n ≡ x → tokens x ≡ length row → Takes x row r → spine_at r j ≡ spine_at row i
      go (star ts) x l t = given_keeps h recs n row e ts x l r t.0 i j o
      go (plain k) x l t = let y : from j ≡ from i = ap (λ (z : Rec). origin_in z j) (sym x) ∙ o in let w : j ≡ i = cc in rw (w, ← t)

  branch_lowest : (r : List Spine) → At h recs (suc n) r → (j k p : ℕ) → origin_in (recs n) j ≡ branch_of k → part h recs (suc n) j ≡ some p →
      (v : ℕ) × (spine_at r j ≡ Line p v) × ((u : ℕ) → u < v → (i : ℕ) × (spine_at r i ≡ Line p u) × (precedes recs n j i ≡ true))
  unfolding origin_in
  branch_lowest r f j k p o a = go (recs n) refl (passed r f).1 (passed r f).2
    where
      go : (x : Rec) → recs n ≡ x → tokens x ≡ length row → Takes x row r → (v : ℕ) × (spine_at r j ≡ Line p v) × ((u : ℕ) → u < v →
          (i : ℕ) × (spine_at r i ≡ Line p u) × (precedes recs n j i ≡ true))
      go (star ts) x l t = given_lowest h recs n row e ts x l r t.0 j k p o a
      go (plain m) x l t = absurd (let y : from j ≡ branch_of k = ap (λ (z : Rec). origin_in z j) (sym x) ∙ o in clash cc)

  -- ---- the end, and question 6

  ends_where : (read_to h recs (suc n) ≡ ended) ↔ (columns h recs n ≡ 0)
  ends_where = (
    λ f. sym is_held.size ∙ subst (RecordIs (recs n) row) f (record_read h recs n row e),
    λ z. go z (read_to h recs (suc n)) refl (record_read h recs n row e),
  )
    where
      go : columns h recs n ≡ 0 → (o : Reading) → read_to h recs (suc n) ≡ o → RecordIs (recs n) row o → read_to h recs (suc n) ≡ ended
      go z (reached r) f k = absurd (omega (arith, k.0, is_held.size))
      go z ended f k = f
      go z (refused q g) f k = absurd (omega (arith, k.0, is_held.size))

  uneven : 1 ≤ columns h recs n → (f : ℕ) → (read_to h recs (suc n) ≡ refused 6 f) ↔ ((tokens (recs n) ≢ columns h recs n) × (f ≡ tokens (recs n)))
  uneven l f = (
    λ g. to (subst (RecordIs (recs n) row) g (record_read h recs n row e)).1,
    λ k. back k.0 k.1
        (read_to h recs (suc n)) refl (record_read h recs n row e),
  )
    where
      to : Refuses (recs n) row 6 f → (tokens (recs n) ≢ columns h recs n) × (f ≡ tokens (recs n))
      to (inl k) = (λ y. k.0 (y ∙ sym is_held.size), k.2)
      to (inr (ts, x, y, (o, s, i))) = absurd (not_6 o f i)

      back : tokens (recs n) ≢ columns h recs n → f ≡ tokens (recs n) → (o : Reading) → read_to h recs (suc n) ≡ o → RecordIs (recs n) row o →
          read_to h recs (suc n) ≡ refused 6 f
      back d a (reached r) g k = absurd (d (k.1 ∙ is_held.size))
      back d a ended g k = absurd (omega (arith, is_held.size))
      back d a (refused q m) g (y, inl k) = g ∙ ap₂ refused k.1 (k.2 ∙ sym a)
      back d a (refused q m) g (y, inr (ts, x, z, w)) = absurd (d (ap tokens x ∙ z ∙ is_held.size))

  -- ---- a record that fits

  module _ (fits : Fits h recs n) where
    plain_kept : (k : ℕ) → recs n ≡ plain k → At h recs (suc n) row
    plain_kept k x = go (read_to h recs (suc n)) refl (subst (λ (r : Rec). RecordIs r row (read_to h recs (suc n))) x (record_read h recs n row e))
      where
        go : (o : Reading) → read_to h recs (suc n) ≡ o → RecordIs (plain k) row o → At h recs (suc n) row
        go (reached r) f t = f ∙ ap reached (sym t.2)
        go ended f t = absurd (omega (arith, fits.0, is_held.size))
        go (refused q m) f (y, inl t) = absurd (t.0 (sym (ap tokens x) ∙ fits.1 ∙ sym is_held.size))
        go (refused q m) f (y, inr (ts, z, w, s)) = clash cc

    -- a star record: what it comes to
    module _ (ts : List PathToken) (x : recs n ≡ star ts) where
      even : length ts ≡ length row
      even = sym (ap tokens x) ∙ fits.1 ∙ sym is_held.size

      outcome : (o : Outcome) × StepIs ts row o × (read_to h recs (suc n) ≡ reading o)
      outcome = go (read_to h recs (suc n)) refl (subst (λ (r : Rec). RecordIs r row (read_to h recs (suc n))) x (record_read h recs n row e))
        where
          go : (o : Reading) → read_to h recs (suc n) ≡ o → RecordIs (star ts) row o → (o : Outcome) × StepIs ts row o × (read_to h recs (suc n) ≡ reading o)
          go (reached r) f t = (next r, t.2, f)
          go ended f t = absurd (omega (arith, fits.0, is_held.size))
          go (refused q m) f (y, inl t) = absurd (t.0 even)
          go (refused q m) f (y, inr (us, z, w, (o, s, i))) = (o, subst (λ (l : List PathToken). StepIs l row o) (star_is us ts (sym z)) s, f ∙ sym i)

      voiceless_over : (q : ℕ) → read_to h recs (suc n) ≡ refused 8 q → 4 < lines h recs (suc n) q
      voiceless_over q f = lacks_over h recs n row e ts x even q (is_voiceless ts row outcome.0 q (sym outcome.2 ∙ f) outcome.1)

      mixed_first : (f : ℕ) → StepIs ts row (mixed f) → FirstMixed h recs n f
      mixed_first f (c, m, i) = subst (FirstMixed h recs n) (sym i) (first_mixed h recs n row e ts x c m)

      not_mixed : Unmixed h recs n → (f : ℕ) → StepIs ts row (mixed f) → ⊥
      not_mixed u f s = let a : FirstMixed h recs n f = mixed_first f s in a.mixes (u a.column a.other a.joined)

      mixed_where : (f : ℕ) → (read_to h recs (suc n) ≡ refused 17 f) ↔ FirstMixed h recs n f
      mixed_where f = (
        λ g. mixed_first f (is_mixed ts row outcome.0 f (sym outcome.2 ∙ g) outcome.1),
        first_refused h recs n row e ts x (omega (arith, fits.0, is_held.size)) even f,
      )

      over_voiceless : Unmixed h recs n → (p : ℕ) → 4 < lines h recs (suc n) p → (q : ℕ) × (read_to h recs (suc n) ≡ refused 8 q)
      over_voiceless u p l = go outcome.0 outcome.1 outcome.2
        where
          go : (o : Outcome) → StepIs ts row o → read_to h recs (suc n) ≡ reading o → (q : ℕ) × (read_to h recs (suc n) ≡ refused 8 q)
          go (next r) s f = absurd (omega (arith, given_four h recs n row e ts x even r s.0 p))
          go (mixed c) s f = absurd (not_mixed u c s)
          go (voiceless q) s f = (q, f)
          go (wide m) s f = absurd (omega (arith, given_four h recs n row e ts x even s.0 s.1 p))

      wide_where : Unmixed h recs n → (f : ℕ) → (read_to h recs (suc n) ≡ refused 9 f) ↔ (((p : ℕ) → lines h recs (suc n) p ≤ 4) × (256 < f) × (f ≡ columns h recs (suc n)))
      wide_where u f = (λ g. to (is_wide ts row outcome.0 f (sym outcome.2 ∙ g) outcome.1), λ k. back k.0 k.1 k.2 outcome.0 outcome.1 outcome.2)
        where
          to : StepIs ts row (wide f) → ((p : ℕ) → lines h recs (suc n) p ≤ 4) × (256 < f) × (f ≡ columns h recs (suc n))
          to (r, g, a, b) = (given_four h recs n row e ts x even r g, b, a ∙ given_size h recs n row e ts x even r g)

          back : ((p : ℕ) → lines h recs (suc n) p ≤ 4) → 256 < f → f ≡ columns h recs (suc n) → (o : Outcome) → StepIs ts row o → read_to h recs (suc n) ≡ reading o →
              read_to h recs (suc n) ≡ refused 9 f
          back four l a (next r) s g = absurd (omega (arith, given_size h recs n row e ts x even r s.0, s.1))
          back four l a (mixed c) s g = absurd (not_mixed u c s)
          back four l a (voiceless q) s g = absurd (omega (arith, four q, lacks_over h recs n row e ts x even q s))
          back four l a (wide m) (r, g, b, c) i = i ∙ ap (refused 9) (b ∙ given_size h recs n row e ts x even r g ∙ sym a)

      taken_where : Unmixed h recs n → ((p : ℕ) → lines h recs (suc n) p ≤ 4) → columns h recs (suc n) ≤ 256 → (r : List Spine) × At h recs (suc n) r
      taken_where u four l = go outcome.0 outcome.1 outcome.2
        where
          go : (o : Outcome) → StepIs ts row o → read_to h recs (suc n) ≡ reading o → (r : List Spine) × At h recs (suc n) r
          go (next r) s g = (r, g)
          go (mixed c) s g = absurd (not_mixed u c s)
          go (voiceless q) s g = absurd (omega (arith, four q, lacks_over h recs n row e ts x even q s))
          go (wide m) (r, g, b, c) i = absurd (omega (arith, given_size h recs n row e ts x even r g))

  named : (q : ℕ) → read_to h recs (suc n) ≡ refused 8 q → FirstWithout h recs n q
  named q f = go (subst (RecordIs (recs n) row) f (record_read h recs n row e)).1
    where
      go : Refuses (recs n) row 8 q → FirstWithout h recs n q
      go (inl k) = absurd (omega (arith, k.1))
      go (inr (ts, x, l, (o, s, i))) = lacks_first h recs n row e ts x l q (is_voiceless ts row o q i s)

  voiceless_unmixed : (q : ℕ) → read_to h recs (suc n) ≡ refused 8 q → Unmixed h recs n
  voiceless_unmixed q f = go k.1
    where
      k : RecordIs (recs n) row (refused 8 q)
      k = subst (RecordIs (recs n) row) f (record_read h recs n row e)

      other : (g : ℕ) → read_to h recs (suc n) ≢ refused 17 g
      other g y = let z : refused 8 q ≡ refused 17 g = sym f ∙ y in let w : ◌≡◌ {A = ℕ} 8 17 = cc in omega arith

      go : Refuses (recs n) row 8 q → Unmixed h recs n
      go (inl r) = absurd (omega (arith, r.1))
      go (inr (ts, x, l, s)) = else_unmixed h recs n row e ts x k.0 l other

pub demand : (h : List Bool) (recs : ℕ → Rec) → Demand h recs
unfolding part_at read_to
demand h recs = record {
  starts = (header_row h, refl, header_voice h 0);
  size = λ n row e. (is_held h recs n row e).size;
  in_part = λ n row e. (is_held h recs n row e).parts;
  voiced = λ n row e. sound_voiced row (is_held h recs n row e).sound;
  below_4 = λ n row e. sound_below row (is_held h recs n row e).sound;
  differ = λ n row e. sound_differ row (is_held h recs n row e).sound;
  keeps = λ n row r e. line_keeps h recs n row e r;
  lowest = λ n row r e. branch_lowest h recs n row e r;
  ends = ends_where h recs;
  question_6 = uneven h recs;
  plain_keeps = plain_kept h recs;
  question_17 = mixed_where h recs;
  question_8 = λ n row e l ts x u. (λ k. (k.0, voiceless_over h recs n row e l ts x k.0 k.1), λ k. over_voiceless h recs n row e l ts x u k.0 k.1);
  names = named h recs;
  question_9 = wide_where h recs;
  goes_on = taken_where h recs;
  unmixed = taken_unmixed h recs;
  unmixed_8 = voiceless_unmixed h recs;
  one_origin = λ n row at j e m. ends_in h recs m row at;
  leftmost = leftmost_ends recs;
}
