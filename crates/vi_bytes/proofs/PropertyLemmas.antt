-- Properties: what bytes read as is one thing, and the bytes of regions read as those regions.
use Rattle.std.proofs.Common.{◌≡◌, ℕ, zero, suc, ◌+◌, ◌*◌, ◌-◌, ◌≤◌, ◌<◌, ◌^◌, List, [], ◌∷◌, ◌++◌, length, take, replicate, refl, sym, ap, subst, ◌∙◌, inl, inr, arith, length-append, append_assoc}
use Rattle.std.proofs.Math.Seq.{drop-append_seam, drop-append-add, take-append-add}
use Rattle.std.proofs.lemmas.List.{get_or-append-add, length-replicate, length-take-le, take-replicate}
use Rattle.std.proofs.lemmas.List.Elements.{recursion_from_All}
use Rattle.std.specs.List.{flat_map, All, AllByRecursion}
use Rattle.byteorder.specs.Endian.{little_bytes, little_number}
use Rattle.byteorder.specs.Numbers.{little_number-reads_back}
use Rattle.vi_bytes.specs.declared.region.Region.{Region}
use Rattle.vi_bytes.specs.declared.region.RegionKind.{RegionKind}
use Rattle.vi_bytes.specs.declared.region.RegionKind.TheVariants.{Reserved, Msi}
use Rattle.vi_bytes.specs.Fields.{field, byte_at}
use Rattle.vi_bytes.specs.Spans.{IsProper}
use Rattle.vi_bytes.specs.Properties.{kind_byte, property, property_bytes, type_at, length_at, end_at, Ends, Begins, IsWhole, ReadsKind, IsRegionAt, IsMisfitAt, Properties, Regions, with_region, ReadsFrom, finished, cut, misfit, skipped, region}

-- a property begins only where the list hasn't ended
not-Ends-Begins : {at : ℕ} {bytes : List ℕ} → Ends at bytes → Begins at bytes → ⊥
not-Ends-Begins {at} {bytes} ends begins =
    let room : at + 4 ≤ length bytes = begins.room in
    elim ends [ inl short ↦ omega arith | inr none ↦ begins.type none ]

-- a value that is cut isn't whole
not-IsWhole-cut : {at : ℕ} {bytes : List ℕ} → IsWhole at bytes → length bytes < end_at at bytes → ⊥
not-IsWhole-cut {at} {bytes} whole passes =
    let fits : end_at at bytes ≤ length bytes = whole.fits in
    omega arith

-- a region isn't a misfit
not-IsRegionAt-IsMisfitAt : {at : ℕ} {bytes : List ℕ} {r : Region} → IsRegionAt at bytes r → IsMisfitAt at bytes → ⊥
not-IsRegionAt-IsMisfitAt {at} {bytes} {r} is not =
    let long : 20 ≤ length_at at bytes = is.length in
    let first : r.span.first ≡ field (at + 8) 8 bytes = is.first in
    let last : r.span.last ≡ field (at + 16) 8 bytes = is.last in
    let proper : r.span.first ≤ r.span.last = is.proper in
    elim not.misfit [ inl short ↦ omega arith | inr below ↦ omega arith ]

-- a subtype is read as one kind
same_kind : (n : ℕ) (kind other : RegionKind) → ReadsKind n kind → ReadsKind n other → kind ≡ other
same_kind n Reserved Reserved one two = refl
same_kind n Reserved Msi one two = absurd (one two)
same_kind n Msi Reserved one two = absurd (two one)
same_kind n Msi Msi one two = refl

make_region : RegionKind → ℕ → ℕ → Region
make_region kind first last = record { kind = kind; span = record { first = first; last = last } }

-- bytes show one region at an offset
same_region : {at : ℕ} {bytes : List ℕ} (r s : Region) → IsRegionAt at bytes r → IsRegionAt at bytes s → r ≡ s
unfolding make_region
same_region {at} {bytes} r s one two =
    let kinds : r.kind ≡ s.kind = same_kind (byte_at (at + 4) bytes) r.kind s.kind one.kind two.kind in
    let firsts : r.span.first ≡ s.span.first = one.first ∙ sym two.first in
    let lasts : r.span.last ≡ s.span.last = one.last ∙ sym two.last in
    let parts : make_region r.kind r.span.first r.span.last ≡ make_region s.kind s.span.first s.span.last = cc in
    parts

-- properties are read in one way
pub same-from_ReadsFrom : {bytes : List ℕ} {at : ℕ} {read other : Properties} → ReadsFrom bytes at read → ReadsFrom bytes at other → read ≡ other
same-from_ReadsFrom (finished e) (finished f) = refl
same-from_ReadsFrom (finished e) (cut b l) = absurd (not-Ends-Begins e b)
same-from_ReadsFrom (finished e) (misfit m) = absurd (not-Ends-Begins e m.whole.begins)
same-from_ReadsFrom (finished e) (skipped w t rest) = absurd (not-Ends-Begins e w.begins)
same-from_ReadsFrom (finished e) (region r rest) = absurd (not-Ends-Begins e r.whole.begins)
same-from_ReadsFrom (cut b l) (finished f) = absurd (not-Ends-Begins f b)
same-from_ReadsFrom (cut b l) (cut c m) = refl
same-from_ReadsFrom (cut b l) (misfit m) = absurd (not-IsWhole-cut m.whole l)
same-from_ReadsFrom (cut b l) (skipped w t rest) = absurd (not-IsWhole-cut w l)
same-from_ReadsFrom (cut b l) (region r rest) = absurd (not-IsWhole-cut r.whole l)
same-from_ReadsFrom (misfit m) (finished f) = absurd (not-Ends-Begins f m.whole.begins)
same-from_ReadsFrom (misfit m) (cut c l) = absurd (not-IsWhole-cut m.whole l)
same-from_ReadsFrom (misfit m) (misfit n) = refl
same-from_ReadsFrom (misfit m) (skipped w t rest) = absurd (t m.type)
same-from_ReadsFrom (misfit m) (region r rest) = absurd (not-IsRegionAt-IsMisfitAt r m)
same-from_ReadsFrom (skipped w t rest) (finished f) = absurd (not-Ends-Begins f w.begins)
same-from_ReadsFrom (skipped w t rest) (cut c l) = absurd (not-IsWhole-cut w l)
same-from_ReadsFrom (skipped w t rest) (misfit m) = absurd (t m.type)
same-from_ReadsFrom (skipped w t rest) (skipped v u more) = same-from_ReadsFrom rest more
same-from_ReadsFrom (skipped w t rest) (region r more) = absurd (t r.type)
same-from_ReadsFrom (region r rest) (finished f) = absurd (not-Ends-Begins f r.whole.begins)
same-from_ReadsFrom (region r rest) (cut c l) = absurd (not-IsWhole-cut r.whole l)
same-from_ReadsFrom (region r rest) (misfit m) = absurd (not-IsRegionAt-IsMisfitAt r m)
same-from_ReadsFrom (region r rest) (skipped w t more) = absurd (t r.type)
same-from_ReadsFrom (region {r = one} {read = read} r rest) (region {r = two} {read = other} s more) =
    let here : one ≡ two = same_region one two r s in
    let later : read ≡ other = same-from_ReadsFrom rest more in
    ap (λ (x : Region). with_region x read) here ∙ ap (λ (p : Properties). with_region two p) later

-- fields after other bytes are those of the rest
field-after : (before rest : List ℕ) (at n : ℕ) → field (length before + at) n (before ++ rest) ≡ field at n rest
field-after before rest at n = ap (λ (bytes : List ℕ). little_number n bytes) (drop-append-add before rest at)

field-seam : (before rest : List ℕ) (n : ℕ) → field (length before) n (before ++ rest) ≡ little_number n rest
field-seam before rest n = ap (λ (bytes : List ℕ). little_number n bytes) (drop-append_seam before rest)

pub length-property : (r : Region) → length (property r) ≡ 24
unfolding property
length-property r = refl

-- a region that its property was written for
abbrev Fits : Region → Type 0
Fits r = IsProper r.span × (r.span.last < 2 ^ 64)

reads_kind : (kind : RegionKind) → ReadsKind (kind_byte kind) kind
reads_kind Reserved = λ (e : 0 ≡ 1). absurd (omega arith)
reads_kind Msi = refl

-- it has a value of 20 bytes
length_at-property : (before after : List ℕ) (r : Region) → length_at (length before) (before ++ (property r ++ after)) ≡ 20
unfolding property
length_at-property before after r = field-after before (property r ++ after) 2 2

end_at-property : (before after : List ℕ) (r : Region) → length (before ++ property r) ≡ end_at (length before) (before ++ (property r ++ after))
end_at-property before after r =
    let bytes = before ++ (property r ++ after) in
    let long : length_at (length before) bytes ≡ 20 = length_at-property before after r in
    let size : length (before ++ property r) ≡ length before + 24 = length-append before (property r) ∙ ap (λ (n : ℕ). length before + n) (length-property r) in
    omega arith

length-property_after : (before after : List ℕ) (r : Region) → length (before ++ (property r ++ after)) ≡ length before + (24 + length after)
length-property_after before after r =
    length-append before (property r ++ after)
    ∙ ap (λ (n : ℕ). length before + n) (length-append (property r) after ∙ ap (λ (n : ℕ). n + length after) (length-property r))

-- the property of a region reads as this region, whatever stands before it and after it
IsRegionAt-property : (before after : List ℕ) (r : Region) → Fits r → IsRegionAt (length before) (before ++ (property r ++ after)) r
unfolding property
IsRegionAt-property before after r fits =
    let bytes = property r ++ after in
    let first_fits : r.span.first < 2 ^ 64 = omega (arith, fits.0, fits.1) in
    let type : type_at (length before) (before ++ bytes) ≡ 1 = field-seam before bytes 2 in
    let long : length_at (length before) (before ++ bytes) ≡ 20 = length_at-property before after r in
    let kind : byte_at (length before + 4) (before ++ bytes) ≡ kind_byte r.kind = get_or-append-add before bytes 4 0 in
    let first : field (length before + 8) 8 (before ++ bytes) ≡ r.span.first =
    field-after before bytes 8 8 ∙ little_number-reads_back 8 r.span.first (little_bytes 8 r.span.last ++ after) first_fits in
    let last : field (length before + 16) 8 (before ++ bytes) ≡ r.span.last =
    field-after before bytes 16 8 ∙ little_number-reads_back 8 r.span.last after fits.1 in
    let size : length (before ++ bytes) ≡ length before + (24 + length after) = length-property_after before after r in
    record {
      whole = record {
        begins = record { room = omega arith; type = λ (e : type_at (length before) (before ++ bytes) ≡ 0). absurd (omega arith) };
        fits = omega arith;
      };
      type = type;
      length = omega arith;
      kind = subst (λ (n : ℕ). ReadsKind n r.kind) (sym kind) (reads_kind r.kind);
      first = sym first;
      last = sym last;
      proper = fits.0;
    }

-- zeros end the list
little_number-zeros : (fill : ℕ) → little_number 2 (replicate fill 0) ≡ 0
little_number-zeros zero = refl
little_number-zeros (suc zero) = refl
little_number-zeros (suc (suc n)) = refl

-- the properties of regions read as these regions, with anything before them and zeros after them
ReadsFrom-flat_map : (regions : List Region) (before : List ℕ) (fill : ℕ) → AllByRecursion Fits regions → ReadsFrom (before ++ (flat_map property regions ++ replicate fill 0)) (length before) (Regions regions)
ReadsFrom-flat_map [] before fill fit = finished (inr (field-seam before (replicate fill 0) 2 ∙ little_number-zeros fill))
ReadsFrom-flat_map (r ∷ regions) before fill fit =
    let after = flat_map property regions ++ replicate fill 0 in
    let shape : before ++ ((property r ++ flat_map property regions) ++ replicate fill 0) ≡ before ++ (property r ++ after) = simp append_assoc in
    let bytes = before ++ (property r ++ after) in
    let here : IsRegionAt (length before) bytes r = IsRegionAt-property before after r fit.0 in
    let regrouped : (before ++ property r) ++ after ≡ bytes = append_assoc before (property r) after in
    let size : length (before ++ property r) ≡ end_at (length before) bytes = end_at-property before after r in
    let rest : ReadsFrom ((before ++ property r) ++ after) (length (before ++ property r)) (Regions regions) = ReadsFrom-flat_map regions (before ++ property r) fill fit.1 in
    let later : ReadsFrom bytes (length (before ++ property r)) (Regions regions) = subst (λ (b : List ℕ). ReadsFrom b (length (before ++ property r)) (Regions regions)) regrouped rest in
    let last : ReadsFrom bytes (end_at (length before) bytes) (Regions regions) = subst (λ (at : ℕ). ReadsFrom bytes at (Regions regions)) size later in
    subst (λ (b : List ℕ). ReadsFrom b (length before) (Regions (r ∷ regions))) (sym shape) (region here last)

-- bytes filled with zeros to a length
length-filled : (bytes : List ℕ) (n : ℕ) → length (take n (bytes ++ replicate n 0)) ≡ n
length-filled bytes n =
    let size : length (bytes ++ replicate n 0) ≡ length bytes + n = length-append bytes (replicate n 0) ∙ ap (λ (z : ℕ). length bytes + z) (length-replicate n 0) in
    length-take-le n (bytes ++ replicate n 0) (omega arith)

filled : (bytes : List ℕ) (n : ℕ) → length bytes ≤ n → take n (bytes ++ replicate n 0) ≡ bytes ++ replicate (n - length bytes) 0
filled bytes n fits =
    let fill = n - length bytes in
    let size : n ≡ length bytes + fill = omega arith in
    ap (λ (m : ℕ). take m (bytes ++ replicate n 0)) size
    ∙ take-append-add bytes (replicate n 0) fill
    ∙ ap (λ (zeros : List ℕ). bytes ++ zeros) (take-replicate fill n 0 (omega arith))

-- 512 bytes are written
pub length-property_bytes : (regions : List Region) → length (property_bytes regions) ≡ 512
unfolding property_bytes
length-property_bytes regions = length-filled (flat_map property regions) 512

pub length-flat_map-property : (regions : List Region) → length (flat_map property regions) ≡ 24 * length regions
length-flat_map-property [] = refl
length-flat_map-property (r ∷ regions) =
    let first = length-property r in
    let rest = length-flat_map-property regions in
    let both = length-append (property r) (flat_map property regions) in
    omega arith

-- up to 21 properties fit, so that none is cut
pub property_bytes-filled : (regions : List Region) → length regions ≤ 21 → property_bytes regions ≡ flat_map property regions ++ replicate (512 - length (flat_map property regions)) 0
unfolding property_bytes
property_bytes-filled regions few =
    let size = length-flat_map-property regions in
    filled (flat_map property regions) 512 (omega arith)

both_fit : (regions : List Region) → AllByRecursion (λ r. IsProper r.span) regions → AllByRecursion (λ r. r.span.last < 2 ^ 64) regions → AllByRecursion Fits regions
both_fit [] proper small = tt
both_fit (r ∷ regions) proper small = ((proper.0, small.0), both_fit regions proper.1 small.1)

-- what is written for regions reads as these regions
pub ReadsFrom-property_bytes : (regions : List Region) → length regions ≤ 16 → All (λ r. IsProper r.span) regions → All (λ r. r.span.last < 2 ^ 64) regions → ReadsFrom (property_bytes regions) 0 (Regions regions)
ReadsFrom-property_bytes regions few proper small =
    let fit : AllByRecursion Fits regions = both_fit regions (recursion_from_All (λ (r : Region). IsProper r.span) regions proper) (recursion_from_All (λ (r : Region). r.span.last < 2 ^ 64) regions small) in
    subst (λ (bytes : List ℕ). ReadsFrom bytes 0 (Regions regions)) (sym (property_bytes-filled regions (omega arith))) (ReadsFrom-flat_map regions [] (512 - length (flat_map property regions)) fit)
