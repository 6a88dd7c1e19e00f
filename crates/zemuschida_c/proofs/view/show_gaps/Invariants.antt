use Rattle.std.proofs.Common.{◌≡◌, drop, length, map, take}
use Rattle.zemuschida_c.specs.Viewed.{gap_of}
use Rattle.zemuschida_c.proofs.view.show_gaps.Given as goal

abbrev pub invariant-loop-index : goal.invariant-loop-index
invariant-loop-index l = record {
  long : length l.gaps ≡ length l.fn.gaps;
  front : take l.index l.gaps ≡ map gap_of (take l.index l.found);
  back : drop l.index l.gaps ≡ drop l.index l.fn.gaps;
}
