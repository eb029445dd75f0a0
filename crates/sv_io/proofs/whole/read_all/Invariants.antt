use Rattle.std.proofs.Common.{◌≡◌, ◌+◌, ◌-◌, ◌≤◌, vec_len}
use Rattle.std.specs.Io.KnownBytes.{Consumes}
use Rattle.sv_io.proofs.whole.read_all.Given as goal

abbrev pub invariant-reading : goal.invariant-reading
invariant-reading g l = record {
  short : vec_len l.bytes ≤ 67108864;
  given : g.S.Source.given l.source ≡ g.S.Source.given l.fn.source + vec_len l.bytes;
  faults : g.S.Source.faults l.source ≡ g.S.Source.faults l.fn.source;
  room : vec_len l.piece ≡ 65536;
  taken : Consumes (g.S.Source.left l.fn.source) (g.S.Source.left l.source) l.bytes.items;
}

abbrev pub decreases-reading : goal.decreases-reading
decreases-reading g l = 67108865 - vec_len l.bytes
