-- `desk_day_listing::listing`: the scanner tells whether a line was unfit, the check whether the memory can be run.
use Rattle.std.proofs.Common.{refl, sym, ◌∙◌, arith}
use Rattle.desk_image.specs.Scan.{kept}
use Rattle.state.proofs.Accepted.{memory_acceptable}
use Rattle.desk_day_listing.proofs.ByText.{listed_refused, listed_checked}
use Rattle.desk_day_listing.proofs.listing.Goals as goal

pub returns-in-Some : goal.returns-in-Some
returns-in-Some c = rw (listed_refused (kept c.args.s c.args.memory.now) _ (sym c.unfit_line.ensures ∙ c.in-Some.is)) c.put_refused_line.ensures

pub put_run-requires : goal.put_run-requires
put_run-requires c = memory_acceptable _ (sym c.check_memory.ensures ∙ c.in-Ok.is)

pub returns-in-Err : goal.returns-in-Err
returns-in-Err c = let verdict = sym c.check_memory.ensures ∙ c.in-Err.is in
    rw (listed_checked (kept c.args.s c.args.memory.now) (sym c.unfit_line.ensures ∙ c.in_default.is) _ verdict)
    (record { page = refl; whole = refl; within = omega arith })

pub returns-in-Ok : goal.returns-in-Ok
returns-in-Ok c = let verdict = sym c.check_memory.ensures ∙ c.in-Ok.is in
    rw (listed_checked (kept c.args.s c.args.memory.now) (sym c.unfit_line.ensures ∙ c.in_default.is) _ verdict) c.put_run.ensures
