-- Reading what was written gives the pieces back, the checksum's value aside.
-- Assumes nothing.
use Prim.Native.Nat.{ℕ, suc, ◌+◌, ◌-◌, ◌^◌, ◌<◌, ◌≤◌}
use native.Mathlib.Omega.{arith}
use mathlib.Core.Path.{◌≡◌, refl, ap, sym, ◌∙◌, subst}
use mathlib.Core.List.{List, [], ◌∷◌, ◌++◌, append_assoc, append-nil}
use lib.ListN.{length, take, length-append, length-take}
use lib.Seq.{take_at}
use Rattle.base.specs.Every.{Each}
use Rattle.refusal.specs.Answer.{given}
use Rattle.number.specs.Stored.{Bytes, bytes_of}
use Rattle.number.proofs.Laws.{bytes_none, bytes_all, bytes_append, bytes_take, bytes_bytes_of, bytes_back, length_bytes_of}
use Rattle.ber.specs.Written.{tag_bytes, length_bytes}
use Rattle.ber.proofs.Laws.{length_form, length-bytes, tag-bytes}
use Rattle.checksum.specs.Sum.{checksum_of}
use Rattle.checksum.proofs.Laws.{checksum_small}
use Rattle.catalogue.specs.Extended.{is_extended}
use Rattle.catalogue.specs.Shapes.{code_allowed}
use Rattle.packet.specs.Pieces.{Piece, Item, pieces}
use Rattle.packet.specs.Structure.{key, structure}
use Rattle.packet.specs.Judge.{Knowing, fine, fault_of, judge_from, judge}
use Rattle.packet.specs.Verdict.{placed, verdict}
use Rattle.packet.specs.Encode.{item_bytes, items_bytes, unsummed, before_sum, summed, encode}
use Rattle.packet.specs.Allowed.{head_of, ItemsOf, no_more, another, Formed}
use Rattle.laws.proofs.Structure.{length_key, formed_structure}

-- a piece's size, with its length in the shortest form
abbrev pub short_head : Piece → ℕ
short_head c = head_of c (length_bytes (length c.value))

pub length_item : (c : Piece) → length (item_bytes c) ≡ short_head c + length c.value
unfolding item_bytes
length_item c = simp length-append (omega arith)

items_append : (cs ds : List Piece) → items_bytes (cs ++ ds) ≡ items_bytes cs ++ items_bytes ds
unfolding items_bytes
items_append [] ds = refl
items_append (c ∷ cs) ds = rw (items_append cs ds, append_assoc)

-- where pieces that are written from a place on stand
unfoldable pub items_at : ℕ → List Piece → List Item
items_at at [] = []
items_at at (c ∷ cs) = record { start = at; place = at + short_head c; piece = c } ∷ items_at (at + (short_head c + length c.value)) cs

pub pieces_at : (at : ℕ) (cs : List Piece) → pieces (items_at at cs) ≡ cs
unfolding items_at
pieces_at at [] = refl
pieces_at at (c ∷ cs) = ap (λ ds. c ∷ ds) (pieces_at (at + (short_head c + length c.value)) cs)

pub length_pieces : (is : List Item) → length (pieces is) ≡ length is
length_pieces [] = refl
length_pieces (i ∷ is) = ap suc (length_pieces is)

at_append : (at : ℕ) (cs ds : List Piece) → items_at at (cs ++ ds) ≡ items_at at cs ++ items_at (at + length (items_bytes cs)) ds
unfolding items_at items_bytes
at_append at [] ds = ap (λ a. items_at a ds) (let e : at ≡ at + 0 = omega arith in e)
at_append at (c ∷ cs) ds =
    let e : at + (short_head c + length c.value) + length (items_bytes cs) ≡ at + length (item_bytes c ++ items_bytes cs) =
    omega (arith, length-append (item_bytes c) (items_bytes cs), length_item c) in
    rw (← e, at_append (at + (short_head c + length c.value)) cs ds)

-- a tag that has a form
pub record Tagged (c : Piece) : Type 0 where
  pub some : 0 < c.tag
  pub small : c.tag < 2097152

-- pieces that are written fill their bytes
items_written : (at : ℕ) (cs : List Piece) → Each Tagged cs → length (items_bytes cs) < 2 ^ 32 → ItemsOf at (items_bytes cs) (items_at at cs)
unfolding items_bytes item_bytes items_at
items_written at [] t k = no_more
items_written at (c ∷ cs) t k =
    let form : List ℕ = length_bytes (length c.value) in
    let l = length-append (item_bytes c) (items_bytes cs) in
    let i = another {at = at} c form (items_bytes cs) t.0.some t.0.small (length_form _ (omega (arith, l, length_item c)))
    (items_written (at + (short_head c + length c.value)) cs t.1 (omega (arith, l))) in
    rw (append_assoc (tag_bytes c.tag) (form ++ c.value) (items_bytes cs), append_assoc form c.value (items_bytes cs)) i

-- the checksum's piece
abbrev pub sum_piece : List ℕ → Piece
sum_piece v = record { tag = 1; value = v }

sum_bytes : (v : List ℕ) → length v ≡ 2 → items_bytes (sum_piece v ∷ []) ≡ (1 ∷ 2 ∷ []) ++ v
unfolding items_bytes item_bytes tag_bytes length_bytes
sum_bytes v e = rw e (rw (append-nil v))

-- the same pieces, the checksum's value aside
pub data SameBut : List Piece → List Piece → Type 0 where
  at_last : {v w : List ℕ} → length v ≡ length w → SameBut (sum_piece v ∷ []) (sum_piece w ∷ [])
  further : {c : Piece} {cs ds : List Piece} → SameBut cs ds → SameBut (c ∷ cs) (c ∷ ds)

same_but : (cs : List Piece) (v w : List ℕ) → length v ≡ length w → SameBut (cs ++ (sum_piece v ∷ [])) (cs ++ (sum_piece w ∷ []))
same_but [] v w e = at_last e
same_but (c ∷ cs) v w e = further (same_but cs v w e)

but_tagged : {cs ds : List Piece} → SameBut cs ds → Each Tagged cs → Each Tagged ds
but_tagged (at_last e) t = (record { some = omega arith; small = omega arith }, tt)
but_tagged (further s) t = (t.0, but_tagged s t.1)

pub but_length : {cs ds : List Piece} → SameBut cs ds → length cs ≡ length ds
but_length (at_last e) = refl
but_length (further s) = ap suc (but_length s)

-- nobody finds a fault in the checksum's value
judge_but : (K : Knowing) (seen : List ℕ) {cs ds : List Piece} → SameBut cs ds → judge_from K seen cs ≡ judge_from K seen ds
unfolding judge_from fault_of code_allowed is_extended
judge_but K seen (at_last e) = rw e
judge_but K seen (further s) = rw (judge_but K (_ ∷ seen) s)

pub judged_alike : (K : Knowing) {cs ds : List Piece} → SameBut cs ds → judge K cs ≡ judge K ds
unfolding judge
judged_alike K s = judge_but K [] s

-- pieces that can be sent as a packet: the rules of a packet that do not depend on who reads it
pub record Sendable (cs : List Piece) : Type 0 where
  pub tags : Each Tagged cs
  pub few : length cs ≤ 128
  pub first : Piece
  pub others : List Piece
  pub begins : cs ≡ first ∷ others
  pub time : first.tag ≡ 2
  pub front : List Piece
  pub last : Piece
  pub closes : cs ≡ front ++ (last ∷ [])
  pub checksum : last.tag ≡ 1
  pub pair : length last.value ≡ 2
  pub fits : length (encode cs) ≤ 8192

-- the first piece is not the last
between : (first last : Piece) (others front : List Piece) → first ∷ others ≡ front ++ (last ∷ []) → first.tag ≡ 2 → last.tag ≡ 1
    → (middle : List Piece) × (front ≡ first ∷ middle)
between first last others [] e a b = let f : first ≡ last = cc in absurd (omega (arith, ap (λ (c : Piece). c.tag) f))
between first last others (c ∷ middle) e a b = (middle, ap (λ x. x ∷ middle) (let f : c ≡ first = cc in f))

-- where the items of a written packet begin
abbrev pub body_at : List Piece → ℕ
body_at cs = 16 + length (length_bytes (length (items_bytes cs)))

length_unsummed : (cs : List Piece) → length (unsummed cs) ≡ body_at cs + length (items_bytes cs)
unfolding unsummed
length_unsummed cs = simp (length-append, length_key) (omega arith)

pub length_encode : (cs : List Piece) → length (encode cs) ≡ body_at cs + length (items_bytes cs)
unfolding encode summed
length_encode cs = simp (length-append, length-take, length_bytes_of) (omega (arith, length_unsummed cs))

summed_last : (b v : List ℕ) → length v ≡ 2 → summed (b ++ v) ≡ b ++ bytes_of 2 (checksum_of b)
unfolding summed
summed_last b v e = rw (take_at b v (length (b ++ v) - 2) (omega (arith, length-append b v)))

-- pieces that end in a checksum of two bytes
module _ (cs : List Piece) where
  -- all that is written before its value
  up_to_sum : List ℕ
  up_to_sum = key ++ (length_bytes (length (items_bytes cs) + 4) ++ (items_bytes cs ++ (1 ∷ 2 ∷ [])))

  new_sum : List ℕ
  new_sum = bytes_of 2 (checksum_of up_to_sum)

  -- the pieces that are found when they are read
  with_sum : List Piece
  with_sum = cs ++ (sum_piece new_sum ∷ [])

  pair_new : length new_sum ≡ 2
  unfolding new_sum
  pair_new = length_bytes_of 2 (checksum_of up_to_sum)

  length_sum : (v : List ℕ) → length v ≡ 2 → length (items_bytes (cs ++ (sum_piece v ∷ []))) ≡ length (items_bytes cs) + 4
  length_sum v e = rw (items_append, length-append, sum_bytes v e) (omega arith)

  unsummed_last : (v : List ℕ) → length v ≡ 2 → unsummed (cs ++ (sum_piece v ∷ [])) ≡ up_to_sum ++ v
  unfolding unsummed up_to_sum
  unsummed_last v e = rw (length_sum v e, items_append, sum_bytes v e) (simp append_assoc)

  encode_last : (v : List ℕ) → length v ≡ 2 → encode (cs ++ (sum_piece v ∷ [])) ≡ unsummed with_sum
  unfolding encode new_sum with_sum
  encode_last v e = rw (unsummed_last v e, unsummed_last new_sum pair_new) (summed_last up_to_sum v e)

-- what is read of pieces that were written
pub record ReadBack (cs : List Piece) : Type 0 where
  pub items : List Item
  pub formed : Formed (encode cs) items
  pub read : structure (encode cs) ≡ given items
  pub same : SameBut cs (pieces items)
  pub again : encode (pieces items) ≡ encode cs

sum_head : (v : List ℕ) → length v ≡ 2 → short_head (sum_piece v) ≡ 2
unfolding tag_bytes length_bytes
sum_head v e = rw e

module _ (cs : List Piece) (s : Sendable cs) where
  split : (middle : List Piece) × (s.front ≡ s.first ∷ middle)
  split = between s.first s.last s.others s.front (sym s.begins ∙ s.closes) s.time s.checksum

  middle : List Piece
  middle = split.0

  front : List Piece
  front = s.first ∷ middle

  whole : cs ≡ front ++ (sum_piece s.last.value ∷ [])
  unfolding front middle
  whole =
      let z : s.last ≡ sum_piece s.last.value = ap (λ t. record { tag = t; value = s.last.value }) s.checksum in
      s.closes ∙ (ap (λ x. x ++ (s.last ∷ [])) split.1 ∙ ap (λ c. front ++ (c ∷ [])) z)

  found : List Piece
  found = with_sum front

  found_same : SameBut cs found
  unfolding front found with_sum
  found_same = subst (λ x. SameBut x found) (sym whole) (same_but front s.last.value (new_sum front) (s.pair ∙ sym (pair_new front)))

  found_written : encode cs ≡ unsummed found
  unfolding front found
  found_written = ap encode whole ∙ encode_last front s.last.value s.pair

  found_formed : Formed (unsummed found) (items_at (body_at found) found)
  unfolding front found with_sum new_sum unsummed items_at
  found_formed =
      let new : List ℕ = new_sum front in
      let at : ℕ = body_at found in
      let size = length_unsummed found in
      let small : length (unsummed found) ≤ 8192 = rw found_written at s.fits in
      let from : ℕ = at + length (items_bytes front) in
      let z : Item = record { start = from; place = from + short_head (sum_piece new); piece = sum_piece new } in
      let whole : unsummed found ≡ up_to_sum front ++ new = unsummed_last front new (pair_new front) in
      let end : length (up_to_sum front) ≡ z.place = omega (
        arith,
        length-append (up_to_sum front) new,
        ap length whole,
        pair_new front,
        size,
        length_sum front new (pair_new front),
        sum_head new (pair_new front),
      ) in
      record {
        small = small;
        form = length_bytes (length (items_bytes found));
        body = items_bytes found;
        whole = refl;
        outer = length_form _ (omega arith);
        items = items_written at found (but_tagged found_same s.tags) (omega arith);
        few = omega (arith, but_length found_same, s.few, length_pieces (items_at at found), ap length (pieces_at at found));
        first = record { start = at; place = at + short_head s.first; piece = s.first };
        others = items_at (at + (short_head s.first + length s.first.value)) (middle ++ (sum_piece new ∷ []));
        begins = refl;
        time = s.time;
        front = items_at at front;
        last = z;
        closes = at_append at front (sum_piece new ∷ []);
        checksum = refl;
        pair = pair_new front;
        sum = bytes_back 2 (checksum_of (up_to_sum front)) (checksum_small (up_to_sum front))
            ∙ ap checksum_of (sym (ap (take z.place) whole ∙ take_at (up_to_sum front) new z.place end));
      }

  -- what was written is read back: the same pieces, the checksum's value aside
  pub read_back : ReadBack cs
  unfolding front found with_sum
  read_back =
      record {
        items = items_at (body_at found) found;
        formed = rw found_written found_formed;
        read = ap structure found_written ∙ formed_structure _ _ found_formed;
        same = rw (pieces_at (body_at found) found) found_same;
        again = ap encode (pieces_at (body_at found) found) ∙ (encode_last front (new_sum front) (pair_new front) ∙ sym found_written);
      }

  -- every receiver judges it by the pieces that were written
  pub written_verdict : (K : Knowing) → verdict K (encode cs) ≡ placed read_back.items (judge K cs)
  unfolding verdict
  written_verdict K = rw (read_back.read, judged_alike K read_back.same)

  -- and accepts it where it finds no fault in them
  pub written_accepted : (K : Knowing) → judge K cs ≡ fine → verdict K (encode cs) ≡ given read_back.items
  written_accepted K e = written_verdict K ∙ ap (placed read_back.items) e

-- what was written is bytes
items-bytes : (cs : List Piece) → Each Tagged cs → Each (λ c. Bytes c.value) cs → length (items_bytes cs) < 2 ^ 32 → Bytes (items_bytes cs)
unfolding items_bytes item_bytes
items-bytes [] t b k = bytes_none
items-bytes (c ∷ cs) t b k =
    let l = length-append (item_bytes c) (items_bytes cs) in
    bytes_append (item_bytes c) (items_bytes cs)
    (bytes_append (tag_bytes c.tag) _ (tag-bytes c.tag t.0.some t.0.small)
    (bytes_append (length_bytes (length c.value)) c.value (length-bytes _ (omega (arith, l, length_item c))) b.0))
    (items-bytes cs t.1 b.1 (omega (arith, l)))

pub encode_bytes : (cs : List Piece) → Each Tagged cs → Each (λ c. Bytes c.value) cs → length (items_bytes cs) < 2 ^ 32 → Bytes (encode cs)
unfolding encode summed unsummed
encode_bytes cs t b k =
    let q : List ℕ = unsummed cs in
    let all : Bytes q = bytes_append key _ key_bytes (bytes_append _ (items_bytes cs) (length-bytes _ k) (items-bytes cs t b k)) in
    bytes_append (before_sum q) _ (bytes_take (length q - 2) q all) (bytes_bytes_of 2 (checksum_of (before_sum q)))
  where
    key_bytes : Bytes key
    key_bytes = unfold key in bytes_all key refl
