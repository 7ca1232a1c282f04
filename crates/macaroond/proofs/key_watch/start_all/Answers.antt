use Rattle.macaroond.specs.declared.doors.HttpDoors.{HttpDoors}
use Rattle.macaroond.proofs.key_watch.start_all.Goals as goal

-- the operators' doors have the status socket's beside the plan's
pub returns-clause-http : goal.returns-clause-http
returns-clause-http g c =
    let planned = c.in_ok-doors.doors in
    let doors : HttpDoors = record planned { operators = record planned.operators { doors = c.open_status-status.new.doors } } in
    let opened = c.in_ok-doors.ensures in (
      doors,
      record {
        gateways = opened.gateways;
        gateways_rights = opened.gateways_rights;
        callers = opened.callers;
        callers_rights = opened.callers_rights;
        operators_calls = opened.operators_calls;
        operators_pages = opened.operators_pages;
        operators_rights = opened.operators_rights;
      },
      c.in_ok-http.ensures,
    )
