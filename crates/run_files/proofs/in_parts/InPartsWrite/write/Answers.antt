use Rattle.std.proofs.Common.{◌≡◌, ℕ, take, subst}
use Rattle.std.specs.Option.{option_map}
use Rattle.std.specs.Prelude.{IfOk}
use Rattle.run_files.specs.Parts.{written}
use Rattle.run_files.proofs.Written.{parts_written, text_appended}
use Rattle.run_files.proofs.in_parts.InPartsWrite.write.Goals as goal

pub returns-clause-bytes : goal.returns-clause-bytes
returns-clause-bytes g c =
    let old = c.args.self.now in
    let bytes = c.args.bytes.now in
    let mid = c.begin_next.new.self in
    let new = c.append.new.self in
    let is = subst (λ (size : ℕ). IfOk c.append.result (λ taken. new.parts ≡ option_map (written size (take taken bytes)) mid.parts)) c.in_ok-begin_next.ensures.size c.append.ensures.parts in
    text_appended old.size bytes old.parts mid new c.in_ok-begin_next.ensures.parts c.append.result c.append.ensures.bound c.append.ensures.some is c.append.ensures.none

pub returns-clause-parts : goal.returns-clause-parts
returns-clause-parts g c =
    let old = c.args.self.now in
    let bytes = c.args.bytes.now in
    let mid = c.begin_next.new.self in
    let new = c.append.new.self in
    let is = subst (λ (size : ℕ). IfOk c.append.result (λ taken. new.parts ≡ option_map (written size (take taken bytes)) mid.parts)) c.in_ok-begin_next.ensures.size c.append.ensures.parts in
    parts_written old.size bytes old.parts mid new c.in_ok-begin_next.ensures.parts c.append.result c.append.ensures.bound c.append.ensures.some is
