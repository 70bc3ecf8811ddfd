-- What an answer says as a struct of C: document 01's refusal in front (number 0: none), and behind it what was asked for, all 0 on a refusal.
use Rattle.std.specs.Prelude.{ℕ, cond, eqb, ℤ, pos, Option, Some, None}
use Rattle.std.specs.Int.Signed.{lt_z}
use Rattle.refusal.specs.Answer.{Answer, given, refused}
use Rattle.tagset.specs.Sets.{no_tags, holds}
use Rattle.tagset.specs.declared.TagSet.{TagSet}
use Rattle.catalogue.specs.Rows.{is_signed}
use Rattle.catalogue.specs.Shapes.{is_marked}
use Rattle.catalogue.specs.declared.Sign.{Sign}
use Rattle.catalogue.specs.declared.Item.{Item}
use Rattle.catalogue.specs.declared.Unit.{Unit}
use Rattle.units.specs.Units.{unit_number}
use Rattle.rows.specs.Taken.{part_place, part_length}
use Rattle.rows.specs.declared.Filled.{Filled}
use Rattle.rows.specs.declared.RowWords.{RowWords}
use Rattle.scale.specs.declared.House.{House}
use Rattle.scale.specs.declared.Code.{Code}
use Rattle.packet.specs.declared.Accepted.{Accepted}
use Rattle.writer.specs.declared.Written.{Written}
use Rattle.ground.specs.Ground.{HeightSeen, no_height, over_ellipsoid, over_sea_level, CornerSeen, no_corner, off_the_earth, on}
use Rattle.oysterknoll.specs.declared.Refusal.{Refusal}
use Rattle.oysterknoll.specs.declared.Row.{Row}
use Rattle.oysterknoll.specs.declared.Present.{Present}
use Rattle.oysterknoll.specs.declared.CountAnswer.{CountAnswer}
use Rattle.oysterknoll.specs.declared.SizeAnswer.{SizeAnswer}
use Rattle.oysterknoll.specs.declared.RowAnswer.{RowAnswer}
use Rattle.oysterknoll.specs.declared.StartAnswer.{StartAnswer}
use Rattle.oysterknoll.specs.declared.NextAnswer.{NextAnswer}
use Rattle.oysterknoll.specs.declared.ValueAnswer.{ValueAnswer}
use Rattle.oysterknoll.specs.declared.CodeAnswer.{CodeAnswer}
use Rattle.oysterknoll.specs.declared.HeightAnswer.{HeightAnswer}
use Rattle.oysterknoll.specs.declared.CornerAnswer.{CornerAnswer}
use Rattle.oysterknoll.specs.declared.ItemAnswer.{ItemAnswer}
use Rattle.walker.specs.declared.Standing.{Standing}

-- of header and archive
abbrev pub version : ℕ
version = 4

abbrev pub refusing : ℕ → ℕ → ℕ → Refusal
refusing n place tag = record { number = n; place = place; tag = tag }

abbrev pub nothing : Refusal
nothing = refusing 0 0 0

-- what is given, said with nothing refused in front; a refusal, said of an answer that is else 0
abbrev pub saying : {A S : Type 0} → (A → S) → (Refusal → S) → Answer A → S
saying say refuse (given a) = say a
saying say refuse (refused n place tag) = refuse (refusing n place tag)

-- W-201's two words, and those of the withdrawn items
abbrev pub presenting : TagSet → Present
presenting s = record { low = s.low; high = s.high }

-- how many items, how many rows, which known ones are there, and which of them are withdrawn
abbrev pub counting : Refusal → ℕ → TagSet → TagSet → CountAnswer
counting r n s t = record { refusal = r; count = n; present = presenting s; withdrawn = presenting t }

abbrev pub items_answer : Answer Accepted → CountAnswer
items_answer = saying (λ a. counting nothing a.count a.present a.withdrawn) (λ r. counting r 0 no_tags no_tags)

abbrev pub rows_answer : Answer Filled → CountAnswer
rows_answer = saying (λ f. counting nothing f.count f.present f.withdrawn) (λ r. counting r 0 no_tags no_tags)

-- "answer from them alone": 1 where the bit of a tag is set, else 0
abbrev pub has_answer : TagSet → ℕ → ℕ
has_answer s tag = cond (holds s tag) 1 0

-- how many bytes of a packet, how many of a listing
abbrev pub sizing : Refusal → ℕ → SizeAnswer
sizing r n = record { refusal = r; size = n }

abbrev pub bytes_answer : Answer Written → SizeAnswer
bytes_answer = saying (λ w. sizing nothing w.size) (λ r. sizing r 0)

abbrev pub lines_answer : Answer ℕ → SizeAnswer
lines_answer = saying (sizing nothing) (λ r. sizing r 0)

-- a row by its words, the fourth of them taken apart
abbrev pub rowing : ℕ → ℕ → ℕ → ℕ → ℕ → Row
rowing tag kind code place length = record { tag = tag; kind = kind; code = code; place = place; length = length }

abbrev pub telling : Refusal → Row → RowAnswer
telling r row = record { refusal = r; row = row }

abbrev pub row_answer : Answer RowWords → RowAnswer
row_answer =
    saying (λ r. telling nothing (rowing r.tag r.kind r.code (part_place r.part) (part_length r.part)))
    (λ r. telling r (rowing 0 0 0 0 0))

-- where the items begin
abbrev pub starting : Refusal → ℕ → StartAnswer
starting r place = record { refusal = r; place = place }

abbrev pub start_answer : Answer Accepted → StartAnswer
start_answer = saying (λ a. starting nothing a.from) (λ r. starting r 0)

-- an item and the place after it; "past the last item it answers that there are no more"
abbrev pub stepping : Row → ℕ → NextAnswer
stepping row next = record { row = row; next = next }

abbrev pub next_answer : ℕ → Option Standing → NextAnswer
next_answer place (Some s) = stepping (rowing s.tag s.kind s.code s.place s.length) s.next
next_answer place None = stepping (rowing 0 0 0 0 0) place

-- conversions
abbrev pub valuing : Refusal → ℤ → ValueAnswer
valuing r v = record { refusal = r; value = v }

abbrev pub value_answer : Answer House → ValueAnswer
value_answer = saying (λ h. valuing nothing h.value) (λ r. valuing r (pos 0))

abbrev pub coding : Refusal → ℕ → CodeAnswer
coding r code = record { refusal = r; code = code }

abbrev pub code_answer : Answer Code → CodeAnswer
code_answer = saying (λ c. coding nothing c.code) (λ r. coding r 0)

-- 0 missing, 1 over the ellipsoid, 2 over mean sea level
abbrev pub measuring : Refusal → ℕ → ℤ → HeightAnswer
measuring r kind mm = record { refusal = r; kind = kind; height = mm }

abbrev pub height_seen : HeightSeen → HeightAnswer
height_seen no_height = measuring nothing 0 (pos 0)
height_seen (over_ellipsoid mm) = measuring nothing 1 mm
height_seen (over_sea_level mm) = measuring nothing 2 mm

abbrev pub height_answer : Answer HeightSeen → HeightAnswer
height_answer = saying height_seen (λ r. measuring r 0 (pos 0))

-- 0 missing, 1 a point, 2 off the Earth
abbrev pub pointing : Refusal → ℕ → ℤ → ℤ → CornerAnswer
pointing r kind latitude longitude = record { refusal = r; kind = kind; latitude = latitude; longitude = longitude }

abbrev pub corner_seen : CornerSeen → CornerAnswer
corner_seen no_corner = pointing nothing 0 (pos 0) (pos 0)
corner_seen (on latitude longitude) = pointing nothing 1 latitude longitude
corner_seen off_the_earth = pointing nothing 2 (pos 0) (pos 0)

abbrev pub corner_answer : Answer CornerSeen → CornerAnswer
corner_answer = saying corner_seen (λ r. pointing r 0 (pos 0) (pos 0))

-- how the catalogue stores an item: 0 not at all, 1 unsigned, 2 signed, 3 text, 4 as an extended height (W-202)
abbrev pub unfixed_as : Item → ℕ
unfixed_as i = cond (lt_z i.low i.high) 4 3

abbrev pub stored_as : Item → ℕ
stored_as i = cond (eqb i.width 0) (unfixed_as i) (cond (is_signed i.sign) 2 1)

abbrev pub marked_as : Sign → ℕ
marked_as sign = cond (is_marked sign) 1 0

abbrev pub listing : Item → ℕ → ItemAnswer
listing i unit =
    record {
      stored = stored_as i;
      width = i.width;
      low = i.low;
      high = i.high;
      unit = unit;
      marked = marked_as i.sign;
    }

abbrev pub item_answer : Option Item → Unit → ItemAnswer
item_answer (Some i) unit = listing i (unit_number unit)
item_answer None unit = record { stored = 0; width = 0; low = pos 0; high = pos 0; unit = 0; marked = 0 }
