-- The judge finds nothing exactly where each known item is right and stands once, and 65 is there.
-- Assumes nothing.
use Prim.Native.Nat.{ℕ, zero, suc, ◌<◌, suc-le-suc}
use native.Mathlib.Omega.{arith}
use mathlib.Core.Path.{◌≡◌, refl, sym}
use mathlib.Core.Logic.{◌⊎◌, inl, inr, ⊎_elim}
use mathlib.Core.Bool.{true, false}
use mathlib.Core.List.{List, [], ◌∷◌}
use lib.ListN.{length}
use lib.Dec.{eqb}
use borrow.Author.Tests.{eqb-true, eqb-false, eq-eqb, ne_eqb}
use Rattle.base.proofs.Cases.{by_bool, clash, never}
use Rattle.number.specs.Stored.{value_of}
use Rattle.catalogue.specs.Shapes.{right_length, code_allowed}
use Rattle.packet.specs.Pieces.{Piece}
use Rattle.packet.specs.Judge.{Knowing, has, among, Fault, clean, wrong, fault_of, Judged, fine, faulty, no_version, later, judge_from, judge}
use Rattle.packet.specs.Allowed.{piece_at, Clean}

-- a known item by itself, after the tags that were seen
record Right (seen : List ℕ) (c : Piece) : Type 0 where
  sized : right_length c.tag (length c.value) ≡ true
  fresh : has c.tag seen ≡ false
  coded : code_allowed c.tag (length c.value) (value_of c.value) ≡ true

module _ (K : Knowing) (seen : List ℕ) (c : Piece) where
  clean_right : fault_of K (among seen) c ≡ clean → K c.tag ≡ true → Right seen c
  unfolding fault_of right_length
  clean_right e k =
      by_bool (right_length c.tag (length c.value))
      (λ a. by_bool (has c.tag seen)
      (λ b. let z : wrong 13 ≡ clean = rw (k, a, b) at e in never (cc))
      (λ b. by_bool (code_allowed c.tag (length c.value) (value_of c.value))
      (λ d. record { sized = a; fresh = b; coded = d })
      (λ d. let z : wrong 14 ≡ clean = rw (k, a, b, d) at e in never (cc))))
      (λ a. let z : wrong 12 ≡ clean = rw (k, a) at e in never (cc))

  right_clean : (K c.tag ≡ true → Right seen c) → fault_of K (among seen) c ≡ clean
  unfolding fault_of right_length
  right_clean r = by_bool (K c.tag) (λ k. rw (k, (r k).sized, (r k).fresh, (r k).coded)) (λ k. rw k)

-- whether a tag is among others
seen_one : (t u : ℕ) (us : List ℕ) → has t (u ∷ us) ≡ true → (t ≡ u) ⊎ (has t us ≡ true)
seen_one t u us h = by_bool (eqb t u) (λ e. inl (eqb-true t u e)) (λ e. inr (rw e at h))

seen_not : (t u : ℕ) (us : List ℕ) → has t (u ∷ us) ≡ false → (t ≡ u → ⊥) × (has t us ≡ false)
seen_not t u us h = by_bool (eqb t u) (λ e. clash (rw e at h)) (λ e. (eqb-false t u e, rw e at h))

seen_more : (t u : ℕ) (us : List ℕ) → has t us ≡ true → has t (u ∷ us) ≡ true
seen_more t u us h = by_bool (eqb t u) (λ e. rw e) (λ e. rw e h)

Present : List Piece → Type 0
Present cs = (k : ℕ) × (k < length cs) × ((piece_at cs k).tag ≡ 65)

-- what is clean, after the tags that were seen
record CleanAfter (K : Knowing) (seen : List ℕ) (cs : List Piece) : Type 0 where
  right : (k : ℕ) → k < length cs → K (piece_at cs k).tag ≡ true → Right seen (piece_at cs k)
  once : (j k : ℕ) → j < k → k < length cs → K (piece_at cs k).tag ≡ true → (piece_at cs j).tag ≡ (piece_at cs k).tag → ⊥
  version : (has 65 seen ≡ true) ⊎ Present cs

module _ (K : Knowing) where
  clean_cons : (seen : List ℕ) (c : Piece) (cs : List Piece) → fault_of K (among seen) c ≡ clean → CleanAfter K (c.tag ∷ seen) cs → CleanAfter K seen (c ∷ cs)
  unfolding Present
  clean_cons seen c cs e r = record { right = right; once = once; version = version }
    where
      apart : (k : ℕ) → k < length cs → K (piece_at cs k).tag ≡ true → ((piece_at cs k).tag ≡ c.tag → ⊥) × (has (piece_at cs k).tag seen ≡ false)
      apart k h g = seen_not (piece_at cs k).tag c.tag seen (r.right k h g).fresh

      right : (k : ℕ) → k < suc (length cs) → K (piece_at (c ∷ cs) k).tag ≡ true → Right seen (piece_at (c ∷ cs) k)
      right zero h g = clean_right K seen c e g
      right (suc k) h g =
          let x = r.right k (omega arith) g in
          record { sized = x.sized; fresh = (apart k (omega arith) g).1; coded = x.coded }

      once : (j k : ℕ) → j < k → k < suc (length cs) → K (piece_at (c ∷ cs) k).tag ≡ true → (piece_at (c ∷ cs) j).tag ≡ (piece_at (c ∷ cs) k).tag → ⊥
      once j zero p h g f = absurd (omega arith)
      once zero (suc k) p h g f = (apart k (omega arith) g).0 (sym f)
      once (suc j) (suc k) p h g f = r.once j k (omega arith) (omega arith) g f

      version : (has 65 seen ≡ true) ⊎ Present (c ∷ cs)
      version =
          ⊎_elim
          (λ a. ⊎_elim (λ b. inr (0, omega arith, sym b)) (λ b. inl b) (seen_one 65 c.tag seen a))
          (λ a. inr (suc a.0, suc-le-suc a.1, a.2)) r.version

  cons_clean : (seen : List ℕ) (c : Piece) (cs : List Piece) → CleanAfter K seen (c ∷ cs) → CleanAfter K (c.tag ∷ seen) cs
  unfolding Present
  cons_clean seen c cs r =
      record {
        right = λ k h g.
            let x = r.right (suc k) (suc-le-suc h) g in
            let other : eqb (piece_at cs k).tag c.tag ≡ false = ne_eqb _ _ (λ f. r.once 0 (suc k) (omega arith) (suc-le-suc h) g (sym f)) in
            record { sized = x.sized; fresh = rw other x.fresh; coded = x.coded };
        once = λ j k p h g f. r.once (suc j) (suc k) (suc-le-suc p) (suc-le-suc h) g f;
        version = ⊎_elim (λ a. inl (seen_more 65 c.tag seen a)) (λ a. there a.0 a.1 a.2) r.version;
      }
    where
      there : (k : ℕ) → k < suc (length cs) → (piece_at (c ∷ cs) k).tag ≡ 65 → (has 65 (c.tag ∷ seen) ≡ true) ⊎ Present cs
      there zero h f = inl (rw (eq-eqb 65 c.tag (sym f)))
      there (suc k) h f = inr (k, omega arith, f)

  fine_after : (seen : List ℕ) (cs : List Piece) → judge_from K seen cs ≡ fine → CleanAfter K seen cs
  unfolding judge_from Present
  fine_after seen [] e =
      record {
        right = λ k h. absurd (omega arith);
        once = λ j k p h. absurd (omega arith);
        version = inl (by_bool (has 65 seen) (λ f. f) (λ f. let z : no_version ≡ fine = rw f at e in never (cc)));
      }
  fine_after seen (c ∷ cs) e = go (fault_of K (among seen) c) refl (fine_after (c.tag ∷ seen) cs)
    where
      still : (j : Judged) → later j ≡ fine → j ≡ fine
      still fine f = refl
      still (faulty k n t) f = never (cc)
      still no_version f = never (cc)

      go : (x : Fault) → fault_of K (among seen) c ≡ x → (judge_from K (c.tag ∷ seen) cs ≡ fine → CleanAfter K (c.tag ∷ seen) cs) → CleanAfter K seen (c ∷ cs)
      go clean f rest = clean_cons seen c cs f (rest (still _ (rw f at e)))
      go (wrong n) f rest = let z : faulty zero n c.tag ≡ fine = rw f at e in never (cc)

  after_fine : (seen : List ℕ) (cs : List Piece) → CleanAfter K seen cs → judge_from K seen cs ≡ fine
  unfolding judge_from Present
  after_fine seen [] r = ⊎_elim (λ a. rw a) (λ a. absurd (let h : a.0 < 0 = a.1 in omega arith)) r.version
  after_fine seen (c ∷ cs) r = rw (right_clean K seen c (r.right 0 (omega arith)), after_fine (c.tag ∷ seen) cs (cons_clean seen c cs r))

  module _ (cs : List Piece) where
    -- what the judge finds fine is clean
    pub fine_clean : judge K cs ≡ fine → Clean K cs
    unfolding judge Present
    fine_clean e =
        let r = fine_after [] cs e in
        record {
          sized = λ k h g. (r.right k h g).sized;
          once = r.once;
          coded = λ k h g. (r.right k h g).coded;
          version = ⊎_elim (λ a. clash (sym a)) (λ a. a) r.version;
        }

    -- what is clean the judge finds fine
    pub clean_fine : Clean K cs → judge K cs ≡ fine
    unfolding judge Present
    clean_fine r =
        after_fine [] cs (record {
          right = λ k h g. record { sized = r.sized k h g; fresh = refl; coded = r.coded k h g };
          once = r.once;
          version = inr r.version;
        })
