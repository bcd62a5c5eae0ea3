use Rattle.std.proofs.Common.{◌≡◌, ◌++◌, codes, refl, ap, ◌∙◌, append_assoc}
use Rattle.std.specs.String.{string_bytes}
use Rattle.std.proofs.lemmas.Result.{IfOk-equal}
use Rattle.hex.specs.Hex.{encode_lower}
use Rattle.vi_report.proofs.line.push_answer.Goals as goal

pub returns-in_ok-push_str-in-Read-clause-written : goal.returns-in_ok-push_str-in-Read-clause-written
returns-in_ok-push_str-in-Read-clause-written c =
    let out = string_bytes c.args.out.now in
    let digits = encode_lower c.as_slice-bytes.result.now in
    let word : string_bytes c.push_str-in-Read.new.self ≡ out ++ codes "read " = c.in_ok-push_str-in-Read.ensures.bytes in
    IfOk-equal _ _ _ _ c.push_hex-in-Read.ensures.written
    (ap (λ x. x ++ digits) word ∙ append_assoc out (codes "read ") digits ∙ rw (c.as_slice-bytes.ensures, c.in-Read.is) refl)
