use Rattle.mac_daemon.proofs.running.fn.start_loop.work+FnOnce.call_once.Goals as goal

pub work-requires : goal.work-requires
work-requires g c =
    let crosses = c.requires.1.1.0 in
    (crosses.0, (crosses.1.0, (crosses.1.1, crosses)))
