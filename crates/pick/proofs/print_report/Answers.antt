use Rattle.pick.proofs.Print.{front, printed}
use Rattle.pick.proofs.print_report.Goals as goal

pub slice_bounds-page-end : goal.slice_bounds-page-end
slice_bounds-page-end g c = printed _ _ _ _ _ c.in-Ok.is c.report.ensures

pub slice_bounds-write_all-end : goal.slice_bounds-write_all-end
slice_bounds-write_all-end g c = front _ _ (printed _ _ _ _ _ c.in-Ok.is c.report.ensures)
