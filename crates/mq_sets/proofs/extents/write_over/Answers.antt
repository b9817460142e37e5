use Rattle.mq_sets.proofs.Common.{ℕ, ◌+◌, ◌-◌, length, refl, ap, sym, ◌∙◌, subst, arith, slice_set, rules, map-set, paste_all, All-set, IsPlaced, rows_of}
use Rattle.mq_sets.proofs.Common.{IsWithin, Extent}
use Rattle.std.proofs.lemmas.Slice.{put_mid-paste}
use Rattle.mq_sets.proofs.{Apart.apart-shorter, WrittenOver.rows-written}
use Rattle.mq_sets.proofs.extents.write_over.Goals as goal

-- the extent then
abbrev y_of : Extent → ℕ → Extent
y_of before size = record { start = before.start; length = size; free = before.length + before.free - size }

pub returns : goal.returns
returns g c = record {
  rows =
      let before = c.args.before in
      let row = c.args.row.now in
      let cells = c.args.cells.now in
      let y = y_of before (length row) in
      let same = put_mid-paste before.start (before.start + length row - before.start) cells c.copy_from_slice.new.self row
      (length row) c.copy_from_slice.ensures.after (omega arith) refl ∙ paste_all cells before.start row (length row) refl in
      let inside = subst (IsWithin cells) (sym c.requires.here) (c.requires.within c.args.place before c.requires.place) in
      ap (λ xs. rows_of xs (slice_set c.args.extents.now c.args.place y)) same
      ∙ rows-written cells row before y refl refl c.requires.fits inside c.args.extents.now c.args.place c.requires.place c.requires.here c.requires.apart;
  apart = apart-shorter c.args.extents.now c.args.place c.args.before (y_of c.args.before (length c.args.row.now))
      c.requires.place c.requires.here refl (omega (arith, c.requires.fits)) c.requires.apart;
  lengths = map-set (λ (e : Extent). e.length) c.args.extents.now c.args.place (y_of c.args.before (length c.args.row.now));
  placed = λ some placed. All-set IsPlaced c.args.extents.now c.args.place (y_of c.args.before (length c.args.row.now))
      (λ none. absurd (omega (arith, some, none))) placed;
  within = search rules;
  len = search rules;
}
