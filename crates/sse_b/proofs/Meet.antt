-- Each rule computes its opcode.
use Rattle.std.proofs.Common.{◌≡◌, refl, arith, true}
use Rattle.std.proofs.lemmas.Bool.{false≢true}
use Rattle.orc_ops.specs.declared.opcode.Op.{Op}
use Rattle.orc_ops.specs.Formula.{formula}
use Rattle.sse_laws.specs.Meets.{Meets, is_of_size}
use Rattle.sse_laws.proofs.Ranges.{wrap-lt, shl_range, shr_range}
use Rattle.sse_laws.proofs.Runs.{run_keeps}
use Rattle.sse_laws.proofs.Ways.{first_result, plain, doubled, doubled_shift, no_second}
use Rattle.sse_b.specs.Rules.{rule_of}
use Rattle.sse_b.proofs.Bytes as bytes
use Rattle.sse_b.proofs.Words as words

pub meets : (op : Op) → is_of_size 1 op ≡ true → Meets op (rule_of op)
unfolding formula
meets Op.Absb t = record {
  vectors = refl;
  first = plain 1 (rule_of Op.Absb) (first_result Op.Absb) refl bytes.absb;
  second = no_second 1 (rule_of Op.Absb);
  keeps = run_keeps (rule_of Op.Absb) refl;
}
meets Op.Addb t = record {
  vectors = refl;
  first = plain 1 (rule_of Op.Addb) (first_result Op.Addb) refl bytes.addb;
  second = no_second 1 (rule_of Op.Addb);
  keeps = run_keeps (rule_of Op.Addb) refl;
}
meets Op.Addssb t = record {
  vectors = refl;
  first = plain 1 (rule_of Op.Addssb) (first_result Op.Addssb) refl bytes.addssb;
  second = no_second 1 (rule_of Op.Addssb);
  keeps = run_keeps (rule_of Op.Addssb) refl;
}
meets Op.Addusb t = record {
  vectors = refl;
  first = plain 1 (rule_of Op.Addusb) (first_result Op.Addusb) refl bytes.addusb;
  second = no_second 1 (rule_of Op.Addusb);
  keeps = run_keeps (rule_of Op.Addusb) refl;
}
meets Op.Andb t = record {
  vectors = refl;
  first = plain 1 (rule_of Op.Andb) (first_result Op.Andb) refl bytes.andb;
  second = no_second 1 (rule_of Op.Andb);
  keeps = run_keeps (rule_of Op.Andb) refl;
}
meets Op.Andnb t = record {
  vectors = refl;
  first = plain 1 (rule_of Op.Andnb) (first_result Op.Andnb) refl bytes.andnb;
  second = no_second 1 (rule_of Op.Andnb);
  keeps = run_keeps (rule_of Op.Andnb) refl;
}
meets Op.Avgsb t = record {
  vectors = refl;
  first = plain 1 (rule_of Op.Avgsb) (first_result Op.Avgsb) refl bytes.avgsb;
  second = no_second 1 (rule_of Op.Avgsb);
  keeps = run_keeps (rule_of Op.Avgsb) refl;
}
meets Op.Avgub t = record {
  vectors = refl;
  first = plain 1 (rule_of Op.Avgub) (first_result Op.Avgub) refl bytes.avgub;
  second = no_second 1 (rule_of Op.Avgub);
  keeps = run_keeps (rule_of Op.Avgub) refl;
}
meets Op.Cmpeqb t = record {
  vectors = refl;
  first = plain 1 (rule_of Op.Cmpeqb) (first_result Op.Cmpeqb) refl bytes.cmpeqb;
  second = no_second 1 (rule_of Op.Cmpeqb);
  keeps = run_keeps (rule_of Op.Cmpeqb) refl;
}
meets Op.Cmpgtsb t = record {
  vectors = refl;
  first = plain 1 (rule_of Op.Cmpgtsb) (first_result Op.Cmpgtsb) refl bytes.cmpgtsb;
  second = no_second 1 (rule_of Op.Cmpgtsb);
  keeps = run_keeps (rule_of Op.Cmpgtsb) refl;
}
meets Op.Copyb t = record {
  vectors = refl;
  first = plain 1 (rule_of Op.Copyb) (first_result Op.Copyb) refl bytes.copyb;
  second = no_second 1 (rule_of Op.Copyb);
  keeps = run_keeps (rule_of Op.Copyb) refl;
}
meets Op.Loadb t = record {
  vectors = refl;
  first = plain 1 (rule_of Op.Loadb) (first_result Op.Loadb) refl bytes.copyb;
  second = no_second 1 (rule_of Op.Loadb);
  keeps = run_keeps (rule_of Op.Loadb) refl;
}
meets Op.Loadpb t = record {
  vectors = refl;
  first = plain 1 (rule_of Op.Loadpb) (first_result Op.Loadpb) refl bytes.copyb;
  second = no_second 1 (rule_of Op.Loadpb);
  keeps = run_keeps (rule_of Op.Loadpb) refl;
}
meets Op.Maxsb t = record {
  vectors = refl;
  first = plain 1 (rule_of Op.Maxsb) (first_result Op.Maxsb) refl bytes.maxsb;
  second = no_second 1 (rule_of Op.Maxsb);
  keeps = run_keeps (rule_of Op.Maxsb) refl;
}
meets Op.Maxub t = record {
  vectors = refl;
  first = plain 1 (rule_of Op.Maxub) (first_result Op.Maxub) refl bytes.maxub;
  second = no_second 1 (rule_of Op.Maxub);
  keeps = run_keeps (rule_of Op.Maxub) refl;
}
meets Op.Minsb t = record {
  vectors = refl;
  first = plain 1 (rule_of Op.Minsb) (first_result Op.Minsb) refl bytes.minsb;
  second = no_second 1 (rule_of Op.Minsb);
  keeps = run_keeps (rule_of Op.Minsb) refl;
}
meets Op.Minub t = record {
  vectors = refl;
  first = plain 1 (rule_of Op.Minub) (first_result Op.Minub) refl bytes.minub;
  second = no_second 1 (rule_of Op.Minub);
  keeps = run_keeps (rule_of Op.Minub) refl;
}
meets Op.Orb t = record {
  vectors = refl;
  first = plain 1 (rule_of Op.Orb) (first_result Op.Orb) refl bytes.orb;
  second = no_second 1 (rule_of Op.Orb);
  keeps = run_keeps (rule_of Op.Orb) refl;
}
meets Op.Signb t = record {
  vectors = refl;
  first = plain 1 (rule_of Op.Signb) (first_result Op.Signb) refl bytes.signb;
  second = no_second 1 (rule_of Op.Signb);
  keeps = run_keeps (rule_of Op.Signb) refl;
}
meets Op.Storeb t = record {
  vectors = refl;
  first = plain 1 (rule_of Op.Storeb) (first_result Op.Storeb) refl bytes.copyb;
  second = no_second 1 (rule_of Op.Storeb);
  keeps = run_keeps (rule_of Op.Storeb) refl;
}
meets Op.Subb t = record {
  vectors = refl;
  first = plain 1 (rule_of Op.Subb) (first_result Op.Subb) refl bytes.subb;
  second = no_second 1 (rule_of Op.Subb);
  keeps = run_keeps (rule_of Op.Subb) refl;
}
meets Op.Subssb t = record {
  vectors = refl;
  first = plain 1 (rule_of Op.Subssb) (first_result Op.Subssb) refl bytes.subssb;
  second = no_second 1 (rule_of Op.Subssb);
  keeps = run_keeps (rule_of Op.Subssb) refl;
}
meets Op.Subusb t = record {
  vectors = refl;
  first = plain 1 (rule_of Op.Subusb) (first_result Op.Subusb) refl bytes.subusb;
  second = no_second 1 (rule_of Op.Subusb);
  keeps = run_keeps (rule_of Op.Subusb) refl;
}
meets Op.Xorb t = record {
  vectors = refl;
  first = plain 1 (rule_of Op.Xorb) (first_result Op.Xorb) refl bytes.xorb;
  second = no_second 1 (rule_of Op.Xorb);
  keeps = run_keeps (rule_of Op.Xorb) refl;
}
meets Op.Mulhsb t = record {
  vectors = refl;
  first = doubled 1 (rule_of Op.Mulhsb) (first_result Op.Mulhsb) refl (λ q h. omega arith) (λ a b h k. wrap-lt 8 _) words.mulhsb;
  second = no_second 1 (rule_of Op.Mulhsb);
  keeps = run_keeps (rule_of Op.Mulhsb) refl;
}
meets Op.Mulhub t = record {
  vectors = refl;
  first = doubled 1 (rule_of Op.Mulhub) (first_result Op.Mulhub) refl (λ q h. omega arith) (λ a b h k. omega arith) words.mulhub;
  second = no_second 1 (rule_of Op.Mulhub);
  keeps = run_keeps (rule_of Op.Mulhub) refl;
}
meets Op.Mullb t = record {
  vectors = refl;
  first = doubled 1 (rule_of Op.Mullb) (first_result Op.Mullb) refl (λ q h. omega arith) (λ a b h k. omega arith) words.mullb;
  second = no_second 1 (rule_of Op.Mullb);
  keeps = run_keeps (rule_of Op.Mullb) refl;
}
meets Op.Shlb t = record {
  vectors = refl;
  first = doubled_shift 1 (rule_of Op.Shlb) (first_result Op.Shlb) refl (λ q h. omega arith) (λ a c h. shl_range 8 a c) words.shlb;
  second = no_second 1 (rule_of Op.Shlb);
  keeps = run_keeps (rule_of Op.Shlb) refl;
}
meets Op.Shrsb t = record {
  vectors = refl;
  first = doubled_shift 1 (rule_of Op.Shrsb) (first_result Op.Shrsb) refl (λ q h. omega arith) (λ a c h. wrap-lt 8 _) words.shrsb;
  second = no_second 1 (rule_of Op.Shrsb);
  keeps = run_keeps (rule_of Op.Shrsb) refl;
}
meets Op.Shrub t = record {
  vectors = refl;
  first = doubled_shift 1 (rule_of Op.Shrub) (first_result Op.Shrub) refl (λ q h. omega arith) (λ a c h. shr_range 8 a c h) words.shrub;
  second = no_second 1 (rule_of Op.Shrub);
  keeps = run_keeps (rule_of Op.Shrub) refl;
}
meets Op.Loadupdb t = record {
  vectors = refl;
  first = plain 1 (rule_of Op.Loadupdb) (first_result Op.Loadupdb) refl bytes.copyb;
  second = no_second 1 (rule_of Op.Loadupdb);
  keeps = run_keeps (rule_of Op.Loadupdb) refl;
}
meets Op.Loadupib t = record {
  vectors = refl;
  first = plain 1 (rule_of Op.Loadupib) (first_result Op.Loadupib) refl bytes.copyb;
  second = no_second 1 (rule_of Op.Loadupib);
  keeps = run_keeps (rule_of Op.Loadupib) refl;
}
meets _ t = absurd (false≢true t)
