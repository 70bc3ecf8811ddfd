-- The shadow of the code, not to be believed but proved to be what document 01's definitions give: what the walk at a glance keeps of
-- the items that it has passed, one after another from the left.
use Rattle.std.specs.Prelude.{ℕ, ◌+◌, ◌-◌, ◌^◌, ◌<◌, ◌≤◌, ◌≡◌, Bool, false, cond, ◌&&◌, ◌||◌, Option, Some, None, IfSome, List, [], ◌∷◌, leb, eqb, length, drop, get_or, set}
use Rattle.std.specs.Int.Bits.{bit_or}
use Rattle.refusal.specs.Answer.{Answer, given, refused, map}
use Rattle.ber.specs.Written.{tag_bytes, length_bytes}
use Rattle.number.specs.Stored.{value_of}
use Rattle.tagset.specs.Sets.{knowing, holds, with_tag}
use Rattle.tagset.specs.declared.TagSet.{TagSet}
use Rattle.catalogue.specs.Extended.{is_extended, in_reach}
use Rattle.catalogue.specs.Shapes.{shape_of, shape_allows}
use Rattle.catalogue.specs.code.Column.{mask_column}
use Rattle.catalogue.specs.declared.Shape.TheVariants.{Absent}
use Rattle.packet.specs.Pieces.{Piece, Item, walk}
use Rattle.packet.specs.Said.{header_at}
use Rattle.packet.specs.Verdict.{one_byte, found_at}
use Rattle.packet.specs.code.Headers.{header_of, item_by}
use Rattle.packet.specs.declared.Header.{Header}
use Rattle.packet.specs.declared.Glance.{Glance}
use Rattle.packet.specs.declared.Noted.{Noted}
use Rattle.packet.specs.declared.Passed.{Passed}

-- by how many bytes what stands before a value is longer than its shortest form
abbrev pub shortest : Header → ℕ
shortest h = length (tag_bytes h.tag) + length (length_bytes h.size)

abbrev pub longer_in : Header → ℕ
longer_in h = h.place - h.start - length (tag_bytes h.tag) - length (length_bytes h.size)

-- two words of 64 bits side by side, as a set
pub record TwoWords (l : List ℕ) : Type 0 where
  pub both : length l ≡ 2
  pub low : get_or l 0 0 < 2 ^ 64
  pub high : get_or l 1 0 < 2 ^ 64

abbrev pub set_of : List ℕ → TagSet
set_of l = knowing (get_or l 0 0) (get_or l 1 0)

-- an item is fit: it has no bytes, or its length is allowed, and of an extended height its code too, which is looked at with the length
unfoldable pub is_fit : Piece → Bool
is_fit c =
    let n = length c.value in
    eqb n 0 || cond (is_extended c.tag) (in_reach n (value_of c.value)) (shape_allows (shape_of c.tag) n)

-- the code says so of an item of the catalogue; of others it may say anything
abbrev pub FitAs : List ℕ → Header → Bool → Type 0
FitAs p h f = (shape_of h.tag ≡ Absent → ⊥) → f ≡ is_fit (item_by p h).piece

-- where its value is found: the place past it, or that of an extended height; 0 where there are no bytes
abbrev pub found_by : Header → ℕ
found_by h = found_at h.tag h.place h.size

-- an item at a glance
abbrev pub glance_of : Header → Bool → Glance
glance_of h f =
    record {
      tag = one_byte h.tag;
      fit = f;
      empty = eqb h.size 0;
      place = found_by h;
      past = h.place + h.size;
      longer = longer_in h;
    }

-- there is no item at a place
pub record NoItem (p : List ℕ) (at : ℕ) : Type 0 where
  pub number : ℕ
  pub place : ℕ
  pub tag : ℕ
  pub refuses : header_at p at ≡ refused number place tag

pub record SeenAt (p : List ℕ) (at : ℕ) (g : Glance) : Type 0 where
  pub header : Header
  pub found : header_at p at ≡ given header
  pub same : g ≡ glance_of header g.fit
  pub fits : FitAs p header g.fit

-- a tag and a length that ask for a closer look: of more than one byte, or no bytes
abbrev pub asks_close : ℕ → ℕ → Bool
asks_close tag size = leb 128 (bit_or tag size) || eqb size 0

-- the mask at a place, which for them is 128
abbrev pub mask_at : List ℕ → ℕ → ℕ
mask_at p at = cond (asks_close (get_or p at 0) (get_or p (at + 1) 0)) 128 (get_or mask_column (get_or p at 0) 0)

-- what any glance at a place of a packet says: the item, or that there is none; and one that says only an item of some bytes
abbrev pub SaidAt : List ℕ → ℕ → Option Glance → Type 0
SaidAt p at (Some g) = SeenAt p at g
SaidAt p at None = NoItem p at

pub record PlainSeen (p : List ℕ) (at : ℕ) (g : Glance) : Type 0 where
  pub seen : SeenAt p at g
  pub some : g.empty ≡ false

abbrev pub PlainAt : List ℕ → ℕ → Option Glance → Type 0
PlainAt p at r = IfSome r (PlainSeen p at)

-- a known tag is counted, and noted where its item is fit
abbrev pub counted : TagSet → ℕ → ℕ
counted K t = cond (holds K t) 1 0

abbrev pub noted : TagSet → TagSet → ℕ → Bool → TagSet
noted K s t fits = cond (holds K t && fits) (with_tag s t) s

pub record Notes (words before : List ℕ) (t : ℕ) (fits : Bool) (r : ℕ) (after : List ℕ) : Type 0 where
  pub count : r ≡ counted (set_of words) t
  pub set : set_of after ≡ noted (set_of words) (set_of before) t fits

-- what is kept, with where the values are found, the tags noted, and those of them that have no bytes
pub record Kept : Type 0 where
  pub passed : Passed
  pub places : List ℕ
  pub present : TagSet
  pub withdrawn : TagSet

abbrev pub kept_by : Passed → List ℕ → TagSet → TagSet → Kept
kept_by r places present withdrawn = record { passed = r; places = places; present = present; withdrawn = withdrawn }

abbrev pub kept_in : Passed → List ℕ → Noted → Kept
kept_in r places n = kept_by r places (set_of n.present) (set_of n.withdrawn)

abbrev pub with_header : TagSet → Kept → Header → Bool → Kept
with_header K k h f =
    record {
      passed = record {
        here = h.place + h.size;
        count = k.passed.count + 1;
        last = h.start;
        longer = k.passed.longer + longer_in h;
        known = k.passed.known + counted K (one_byte h.tag);
      };
      places = set k.places (one_byte h.tag) (found_by h);
      present = noted K k.present (one_byte h.tag) f;
      withdrawn = noted K k.withdrawn (one_byte h.tag) (eqb h.size 0);
    }

abbrev pub with_item : TagSet → Kept → Item → Kept
with_item K k i = with_header K k (header_of i) (is_fit i.piece)

unfoldable pub kept_from : TagSet → Kept → List Item → Kept
kept_from K k [] = k
kept_from K k (i ∷ is) = kept_from K (with_item K k i) is

abbrev pub kept : TagSet → Kept → Answer (List Item) → Answer Kept
kept K k = map (kept_from K k)

abbrev pub fresh_at : ℕ → List ℕ → TagSet → TagSet → Kept
fresh_at from = kept_by (record { here = from; count = 0; last = from; longer = 0; known = 0 })

-- a walk stops before the packet's end: at too many items, or where there is none
pub record Stops (p : List ℕ) (here count : ℕ) : Type 0 where
  pub before : here < length p
  pub few : count ≤ 128
  pub none : (count ≡ 128 → ⊥) → NoItem p here

-- with an item more, by its glance
abbrev pub passed_with : TagSet → Passed → Glance → Passed
passed_with K r g =
    record { here = g.past; count = r.count + 1; last = r.here; longer = r.longer + g.longer; known = r.known + counted K g.tag }

abbrev pub with_plain : TagSet → Kept → Glance → Kept
with_plain K k g = kept_by (passed_with K k.passed g) (set k.places g.tag g.place) (noted K k.present g.tag g.fit) k.withdrawn

abbrev pub with_glance : TagSet → Kept → Glance → Kept
with_glance K k g =
    kept_by (passed_with K k.passed g) (set k.places g.tag g.place) (noted K k.present g.tag g.fit)
    (noted K k.withdrawn g.tag g.empty)

-- the sums that a walk keeps do not run over
pub record Counted (r : Passed) : Type 0 where
  pub few : r.count ≤ 128
  pub fewer : r.known ≤ r.count
  pub less : r.longer ≤ r.here

-- an item has room in what is kept
pub record HasRoom (r : Passed) (g : Glance) : Type 0 where
  pub tag : g.tag < 128
  pub place : g.place ≤ 8192
  pub few : r.count ≤ 128
  pub fewer : r.known ≤ r.count
  pub less : r.longer + g.longer ≤ 8192

-- a walk on its way, from something kept on: what is kept with the items ahead is what is kept of all
pub record Going (K : TagSet) (p : List ℕ) (fresh k : Kept) : Type 0 where
  pub counted : Counted k.passed
  pub on : fresh.passed.here ≤ k.passed.here
  pub goes : kept K k (walk (128 - k.passed.count) k.passed.here (drop k.passed.here p))
      ≡ kept K fresh (walk (128 - fresh.passed.count) fresh.passed.here (drop fresh.passed.here p))

-- where a walk that began with something kept has come to: what is kept with the items ahead is what is kept of all
pub record Passes (K : TagSet) (p : List ℕ) (fresh k : Kept) : Type 0 where
  pub few : k.passed.count ≤ 128
  pub goes : kept K k (walk (128 - k.passed.count) k.passed.here (drop k.passed.here p))
      ≡ kept K fresh (walk (128 - fresh.passed.count) fresh.passed.here (drop fresh.passed.here p))
  pub stops : k.passed.here < length p → Stops p k.passed.here k.passed.count
