use Rattle.std.proofs.Common.{◌≡◌, drop, length, map, take}
use Rattle.zemuschida_c.specs.Viewed.{item_of}
use Rattle.zemuschida_c.proofs.view.show_items.Given as goal

abbrev pub invariant-loop-index : goal.invariant-loop-index
invariant-loop-index l = record {
  long : length l.items ≡ length l.fn.items;
  front : take l.index l.items ≡ map item_of (take l.index l.found);
  back : drop l.index l.items ≡ drop l.index l.fn.items;
}
